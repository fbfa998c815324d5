use Rattle.std.proofs.Common.{◌+◌, ◌≤◌, length, string_bytes}
use Rattle.listing.proofs.Listed.{GoesOn}
use Rattle.listing.proofs.streams.listed.Given as goal

abbrev pub invariant-loop-command : goal.invariant-loop-command
invariant-loop-command l = (l.n ≤ l.reader.at + 1) × GoesOn l.bytes (string_bytes l.text) l.n l.reader.at l.reader.rest.now

abbrev pub decreases-loop-command : goal.decreases-loop-command
decreases-loop-command l = length l.reader.rest.now
