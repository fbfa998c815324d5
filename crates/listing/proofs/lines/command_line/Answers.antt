use Rattle.std.proofs.Common.{ℕ, List, ◌++◌, codes, decimal, sym, ap, ◌∙◌}
use Rattle.std.proofs.lemmas.Result.{IfOk-weaker}
use Rattle.commands.specs.Calls.{call_of}
use Rattle.listing.specs.Lines.{command_words}
use Rattle.listing.proofs.lines.command_line.Goals as goal

pub returns-in-Read : goal.returns-in-Read
returns-in-Read c = IfOk-weaker c.format-in-Read.result _ _ (λ _ e. e ∙ ap (command_words c.args.n) (sym (ap call_of c.in-Read.is))) c.format-in-Read.ensures.ok

pub returns-in_ok-words-in-Write : goal.returns-in_ok-words-in-Write
returns-in_ok-words-in-Write c =
    IfOk-weaker c.format-in-Write.result _ _
    (λ _ e. e
    ∙ ap (λ (words : List ℕ). decimal c.args.n ++ (codes " W job " ++ (decimal c.in-Write.job ++ (codes " writes" ++ (words ++ codes "\n"))))) c.in_ok-words-in-Write.ensures
    ∙ ap (command_words c.args.n) (sym (ap call_of c.in-Write.is)))
    c.format-in-Write.ensures.ok

pub returns-in-Withdraw : goal.returns-in-Withdraw
returns-in-Withdraw c = IfOk-weaker c.format-in-Withdraw.result _ _ (λ _ e. e ∙ ap (command_words c.args.n) (sym (ap call_of c.in-Withdraw.is))) c.format-in-Withdraw.ensures.ok

pub returns-in-Sweep : goal.returns-in-Sweep
returns-in-Sweep c = IfOk-weaker c.format-in-Sweep.result _ _ (λ _ e. e ∙ ap (command_words c.args.n) (sym (ap call_of c.in-Sweep.is))) c.format-in-Sweep.ensures.ok
