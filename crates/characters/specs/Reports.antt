-- What a decoder reports, and the number and value of each report.
-- Assumes nothing.
use Rattle.std.specs.Prelude.{ℕ, List, [], ◌∷◌, Option, None, Some}
use Rattle.vocabulary.specs.Tokens.{kind_of, value_of}
use Rattle.characters.specs.declared.reports.Report.{Report}
use Rattle.characters.specs.declared.reports.Report.TheVariants.{Got, ParityError, EscapeError, Disconnect}

-- 0 nothing, 1 to 4 the token, then the errors in the paper's order
abbrev pub report_kind : Option Report → ℕ
report_kind None = 0
report_kind (Some (Got t)) = kind_of t
report_kind (Some ParityError) = 5
report_kind (Some EscapeError) = 6
report_kind (Some Disconnect) = 7

abbrev pub report_value : Option Report → ℕ
report_value None = 0
report_value (Some (Got t)) = value_of t
report_value (Some ParityError) = 0
report_value (Some EscapeError) = 0
report_value (Some Disconnect) = 0

abbrev pub report_words : Option Report → List ℕ
report_words r = report_kind r ∷ report_value r ∷ []
