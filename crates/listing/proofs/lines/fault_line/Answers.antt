use Rattle.std.proofs.Common.{◌++◌, append_assoc, codes, decimal}
use Rattle.std.proofs.lemmas.Result.{IfOk-weaker}
use Rattle.model.specs.Refusals.{fault_number, fault_offset}
use Rattle.listing.proofs.lines.fault_line.Goals as goal

-- the printed fault brings its own brackets
pub returns : goal.returns
returns c =
    let number = decimal (fault_number c.args.fault) in
    let offset = decimal (fault_offset c.args.fault) in
    let first = append_assoc number (codes " " ++ offset) (codes "\n") in
    let second = append_assoc (codes " ") offset (codes "\n") in
    IfOk-weaker c.format.result _ _ (λ _ e. cc) c.format.ensures.ok
