use Rattle.std.proofs.Common.{◌≡◌, ◌^◌, ◌<◌, drop}
use Rattle.words.specs.Digits.{says_from, number_of}
use Rattle.words.proofs.digits.read_number.Given as goal

abbrev pub invariant-loop-octet : goal.invariant-loop-octet
invariant-loop-octet l = (says_from l.n (drop l.octet-index l.word) ≡ number_of l.word) × (l.n < 2 ^ 64)
