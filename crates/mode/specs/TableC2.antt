-- V.150.1, Table C.2, 'Permitted media states', as the source has it: a rule for each indication, with the local modes it permits.
-- The choices of RULES 9.4 to RULES 9.7 (`Given`) are not used here. Assumes nothing.
use Rattle.std.specs.Prelude.{ℕ, Bool, false, ◌&&◌, ◌||◌, List, [], ◌∷◌, eqb}
use Rattle.mode.specs.Given.{audio, voiceband, modem, fax, text}

pub record Rule : Type 0 where
  pub heard : ℕ
  pub permits : List ℕ

abbrev rule : ℕ → List ℕ → Rule
rule k modes = record { heard = k; permits = modes }

-- "If (S' is a), then S = a", and so on
abbrev pub table_c2 : List Rule
table_c2 =
    rule audio (audio ∷ [])
    ∷ rule voiceband (audio ∷ voiceband ∷ [])
    ∷ rule modem (audio ∷ voiceband ∷ modem ∷ [])
    ∷ rule fax (audio ∷ voiceband ∷ fax ∷ [])
    ∷ rule text (audio ∷ voiceband ∷ text ∷ [])
    ∷ []

abbrev among : ℕ → List ℕ → Bool
among s [] = false
among s (x ∷ xs) = eqb s x || among s xs

abbrev any_rule : List Rule → ℕ → ℕ → Bool
any_rule [] k s = false
any_rule (r ∷ rs) k s = (eqb k r.heard && among s r.permits) || any_rule rs k s

-- a rule of the table permits S once k is heard
abbrev pub permitted : ℕ → ℕ → Bool
permitted k s = any_rule table_c2 k s
