use Rattle.std.proofs.Common.{◌≡◌, ℕ, ◌+◌, ◌*◌, ◌/◌, length, List, Some, ap, ◌∙◌, rules, arith}
use Rattle.std.specs.Iterator.Runs.{IsChunksExactRun}
use Rattle.commands.proofs.Entries.{each_lettered, one_letterless, count_some, count_none}
use Rattle.commands.proofs.forms.Order.entries.Goals as goal

pub returns-then-not-all : goal.returns-then-not-all
returns-then-not-all g c =
    let v : ℕ = c.WIDTH.result in
    let bytes : List ℕ = c.args.self.bytes.now in
    let run = c.if-not-all.ensures.runs in
    let size : run.0.from.size ≡ v + 2 = search rules in
    let rest : run.0.from.rest.now ≡ bytes = search rules in
    let chunks : IsChunksExactRun run.0 (v + 2) bytes = rw (size, rest) at (c.chunks_exact-entries.ensures.runs run.0 run.0.seen (omega arith)) in
    let k = one_letterless run.0 (v + 2) bytes (omega arith) chunks _ (λ x l q e. search rules) (run.2 (λ a b d e. search rules)) in
    count_none g.K.Kind.kind.width v (c.WIDTH.ensures ∙ g.met.K.Kind.is_width) bytes k.0 k.1 k.2

pub returns : goal.returns
returns g c =
    let v : ℕ = c.WIDTH.result in
    let bytes : List ℕ = c.args.self.bytes.now in
    let run = c.if-not-all.ensures.runs in
    let size : run.0.from.size ≡ v + 2 = search rules in
    let rest : run.0.from.rest.now ≡ bytes = search rules in
    let chunks : IsChunksExactRun run.0 (v + 2) bytes = rw (size, rest) at (c.chunks_exact-entries.ensures.runs run.0 run.0.seen (omega arith)) in
    let each = each_lettered run.0 (v + 2) bytes (omega arith) chunks _ (λ x q. search rules) (search rules) (run.2.1 (λ a b d e. search rules)) in
    let whole : length bytes / (v + 2) * (v + 2) ≡ length bytes = search rules in
    let count : c.len-count.result ≡ length bytes / (v + 2) = search rules in
    ap Some count ∙ count_some g.K.Kind.kind.width v (c.WIDTH.ensures ∙ g.met.K.Kind.is_width) bytes whole (omega arith) each
