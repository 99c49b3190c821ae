-- Fed from fresh, the decoder says what the bits mean: on each bit it reports what a rule gives, and what a rule gives it
-- reports. So the bits mean one thing, as it says one.
-- Assumes nothing.
use mathlib.Core.Path.{◌≡◌, refl, sym, ap, ◌∙◌}
use mathlib.Core.Bool.{Bool, true≢false}
use mathlib.Core.List.{List, [], ◌∷◌, ◌++◌, append-nil}
use Prim.Native.Nat.{◌+◌}
use native.Mathlib.Nat.{add_comm}
use lib.ListN.{length}
use Rattle.std.specs.Prelude.{Option, None, Some, is_some}
use Rattle.characters.specs.declared.reports.Report.{Report}
use Rattle.characters.specs.States.{Fresh}
use Rattle.characters_stream.specs.Meaning.{ReportedAt}
use Rattle.characters_stream.specs.Meaning.{Line, Lists, none, silent, spoken}
use Rattle.characters_stream.specs.Feeding.{line_of, fed, SaysWhatIsMeant, MeansOneThing}
use Rattle.characters_stream.proofs.LastLaws.{by_last}
use Rattle.characters_stream.proofs.FeedLaws.{final, final_behind, fed_append}
use Rattle.characters_stream.proofs.RuleLaws.{reported}
use Rattle.characters_stream.proofs.StateLaws.{Given, reports_given}

-- the lines of one bit more
fed_last : (bits : List Bool) (b : Bool) →
    fed Fresh 1 (bits ++ b ∷ []) ≡ fed Fresh 1 bits ++ line_of (length bits + 1) (final Fresh (bits ++ b ∷ []))
unfolding fed final
fed_last bits b =
    fed_append Fresh 1 bits (b ∷ [])
    ∙ rw (append-nil (line_of _ _), final_behind Fresh bits b [], add_comm 1 (length bits))

-- one bit more adds the line of its report, if there is one
line_added : {bits : List Bool} {lines : List Line} (b : Bool) (r : Option Report) → final Fresh (bits ++ b ∷ []) ≡ r →
    Given (bits ++ b ∷ []) r → Lists bits lines → Lists (bits ++ b ∷ []) (lines ++ line_of (length bits + 1) r)
line_added {bits} b None e given lists =
    rw append-nil
    (silent b lists
    (λ (r : Report) (h : ReportedAt (bits ++ b ∷ []) r). true≢false (ap is_some (sym (reported h) ∙ e))))
line_added b (Some r) e given lists = spoken b lists given

pub says_what_is_meant : SaysWhatIsMeant
unfolding fed
says_what_is_meant =
    by_last (λ (bits : List Bool). Lists bits (fed Fresh 1 bits)) none
    (λ bits b lists. rw (fed_last bits b) (line_added b (final Fresh (bits ++ b ∷ [])) refl (reports_given bits b) lists))

-- where no rule gives a report, the decoder makes none
quiet : {bits : List Bool} (r : Option Report) → Given bits r → ((r : Report) → ReportedAt bits r → ⊥) → r ≡ None
quiet None given other = refl
quiet (Some r) given other = absurd (other r given)

lists_fed : {bits : List Bool} {lines : List Line} → Lists bits lines → lines ≡ fed Fresh 1 bits
unfolding fed
lists_fed none = refl
lists_fed (silent {bits} b lists other) =
    lists_fed lists
    ∙ sym
    (fed_last bits b
    ∙ rw (quiet (final Fresh (bits ++ b ∷ [])) (reports_given bits b) other) (append-nil (fed Fresh 1 bits)))
lists_fed (spoken {bits} b {r} lists h) =
    rw (fed_last bits b, reported h) (ap (λ (l : List Line). l ++ record { at = length bits + 1; report = r } ∷ []) (lists_fed lists))

-- what is reported, or this where nothing is
abbrev report_or : Report → Option Report → Report
report_or other None = other
report_or other (Some r) = r

pub means_one_thing : MeansOneThing
means_one_thing =
    (λ bits r r' h h'. ap (report_or r) (sym (reported h) ∙ reported h'), λ bits lines lines' h h'. lists_fed h ∙ sym (lists_fed h'))
