use Rattle.std.proofs.Common.{rules, ◌≡◌, ◌&&◌, sym, ap, ◌∙◌, inl, inr}
use Rattle.std.proofs.lemmas.Bool.{cases_lt, lt-ltb, le-ltb}
use Rattle.graph.specs.Members.{has}
use Rattle.graph.proofs.Membership.{has_past}
use Rattle.table.specs.Slots.{slot}
use Rattle.table.proofs.tables.Table.places_where.Goals as goal

-- below 64 the scan asks the test, and no place is past it
pub returns : goal.returns
returns g c i = elim (cases_lt i 64) [
  | inl h ↦
      let asked = c.scan.ensures i h in
      let told : has c.scan.result i ≡ g.Q.SlotTest.test c.args.question.now (slot c.args.self.now i) = search rules in
      told ∙ sym (ap (λ b. b && g.Q.SlotTest.test c.args.question.now (slot c.args.self.now i)) (lt-ltb i 64 h))
  | inr h ↦ has_past c.scan.result i h ∙ sym (ap (λ b. b && g.Q.SlotTest.test c.args.question.now (slot c.args.self.now i)) (le-ltb i 64 h))
]
