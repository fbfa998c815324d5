use Rattle.std.proofs.Common.{is_some, sym, ap, ◌∙◌, arith}
use Rattle.graph.proofs.Placing.{placed_below, placed_index}
use Rattle.table.proofs.settings.Setting.place.Goals as goal

pub unwrap-requires : goal.unwrap-requires
unwrap-requires c = ap is_some (c.new.ensures ∙ sym (placed_below c.from.result (omega (arith, c.from.ensures, c.args.self.small))))

pub returns : goal.returns
returns c = placed_index c.from.result c.unwrap.result (sym c.unwrap.ensures ∙ c.new.ensures) ∙ c.from.ensures
