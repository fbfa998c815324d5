-- What is printed where a stream was not answered.
use Rattle.std.specs.Prelude.{ℕ, List, codes}
use Rattle.cabinet.specs.declared.unanswered.Unanswered.{Unanswered}
use Rattle.cabinet.specs.declared.unanswered.Unanswered.TheVariants.{NoBook, NoMemory}

-- why, in words
abbrev pub unanswered_words : Unanswered → List ℕ
unanswered_words NoBook = codes "there is no such book"
unanswered_words NoMemory = codes "memory ran out"
