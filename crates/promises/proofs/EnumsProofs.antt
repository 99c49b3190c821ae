-- Each enum is found again from its number and its values, so these say all of it: one law, cited once for each enum.
-- Assumes nothing.
use Rattle.std.specs.Prelude.{Option, None, Some}
use mathlib.Core.Path.{◌≡◌, refl, sym, ap, ◌∙◌}
use Prim.Native.Nat.{ℕ}
use lib.Dec.{eqb}
use Rattle.std.specs.Prelude.{Option, None, Some}
use Rattle.vocabulary.specs.Choice.{pick}
use Rattle.vocabulary.specs.Tokens.{kind_of, value_of}
use Rattle.vocabulary.specs.declared.Token.{Token}
use Rattle.vocabulary.specs.declared.Token.TheVariants.{Null, Fct, NChar, TimeCode}
use Rattle.characters.specs.Reports.{report_kind, report_value}
use Rattle.std.specs.Prelude.{Option, None, Some}
use Rattle.characters.specs.declared.reports.Report.{Report}
use Rattle.characters.specs.declared.reports.Report.TheVariants.{Got, ParityError, EscapeError, Disconnect}
use Rattle.vocabulary.proofs.RefusalLaws.{one_number}
use Rattle.link.specs.LinkCalls.{fault_of}
use Rattle.link.proofs.FaultLaws.{fault_back, fault_told}
use Rattle.link.specs.Table.{state_of}
use Rattle.link.proofs.TableLaws.{state_of_number}
use Rattle.link.specs.Send.{sent_kind, sent_value, offer_number, offer_value}
use Rattle.router_table.specs.Headings.{heading_number, heading_values}
use Rattle.router_table.specs.declared.Direction.{Direction}
use Rattle.router_table.specs.declared.Heading.{Heading}
use Rattle.router_table.specs.declared.Heading.TheVariants.{End, Nowhere, Ports}
use Rattle.router_ports.specs.Numbers.{mode_number, mode_wanted, mode_output, owner_number, owner_input}
use Rattle.router_ports.specs.declared.Wanted.{Wanted}
use Rattle.router_ports.specs.declared.Mode.{Mode}
use Rattle.router_ports.specs.declared.Mode.TheVariants.{Idle, Waiting, Routed, Spilling}
use Rattle.promises.specs.Enums.{SaysAll, EnumsNumbered}

found : {Enum Values : Type 0} (number : Enum → ℕ) (values : Enum → Values) (find : ℕ → Values → Enum) →
    ((x : Enum) → find (number x) (values x) ≡ x) → SaysAll number values
found number values find back x y n v =
    sym (back x) ∙ ap (λ k. find k (values x)) n ∙ ap (find (number y)) v ∙ back y

abbrev find_token : ℕ → ℕ → Token
find_token n v = pick (eqb n 1) Null (pick (eqb n 2) Fct (pick (eqb n 3) (NChar v) (TimeCode v)))

back_token : (t : Token) → find_token (kind_of t) (value_of t) ≡ t
back_token Null = refl
back_token Fct = refl
back_token (NChar n) = refl
back_token (TimeCode v) = refl

abbrev find_report : ℕ → ℕ → Option Report
find_report n v =
    pick (eqb n 0) None
    (pick (eqb n 5) (Some ParityError)
    (pick (eqb n 6) (Some EscapeError) (pick (eqb n 7) (Some Disconnect) (Some (Got (find_token n v))))))

back_report : (r : Option Report) → find_report (report_kind r) (report_value r) ≡ r
back_report None = refl
back_report (Some (Got Null)) = refl
back_report (Some (Got Fct)) = refl
back_report (Some (Got (NChar n))) = refl
back_report (Some (Got (TimeCode v))) = refl
back_report (Some ParityError) = refl
back_report (Some EscapeError) = refl
back_report (Some Disconnect) = refl

abbrev find_sent : ℕ → ℕ → Option Token
find_sent n v = pick (eqb n 0) None (Some (find_token n v))

back_sent : (s : Option Token) → find_sent (sent_kind s) (sent_value s) ≡ s
back_sent None = refl
back_sent (Some Null) = refl
back_sent (Some Fct) = refl
back_sent (Some (NChar n)) = refl
back_sent (Some (TimeCode v)) = refl

abbrev find_offer : ℕ → ℕ → Option ℕ
find_offer n v = pick (eqb n 0) None (Some v)

back_offer : (o : Option ℕ) → find_offer (offer_number o) (offer_value o) ≡ o
back_offer None = refl
back_offer (Some v) = refl

abbrev find_mode : ℕ → Wanted × ℕ → Mode
find_mode n v = pick (eqb n 0) Idle (pick (eqb n 1) (Waiting v.0) (pick (eqb n 2) (Routed v.1) Spilling))

back_mode : (m : Mode) → find_mode (mode_number m) (mode_wanted m, mode_output m) ≡ m
back_mode Idle = refl
back_mode (Waiting w) = refl
back_mode (Routed o) = refl
back_mode Spilling = refl

abbrev find_owner : ℕ → ℕ → Option ℕ
find_owner n i = pick (eqb n 0) None (Some i)

back_owner : (w : Option ℕ) → find_owner (owner_number w) (owner_input w) ≡ w
back_owner None = refl
back_owner (Some i) = refl

abbrev find_heading : ℕ → Direction → Heading
find_heading n d = pick (eqb n 0) End (pick (eqb n 1) Nowhere (Ports d))

back_heading : (h : Heading) → find_heading (heading_number h) (heading_values h) ≡ h
back_heading End = refl
back_heading Nowhere = refl
back_heading (Ports d) = refl

pub enums_numbered : EnumsNumbered
enums_numbered =
    record {
      token = found kind_of value_of find_token back_token;
      report = found report_kind report_value find_report back_report;
      sent = found sent_kind sent_value find_sent back_sent;
      offer = found offer_number offer_value find_offer back_offer;
      state = λ x y n. sym (state_of_number x) ∙ ap state_of n ∙ state_of_number y;
      refusal = one_number;
      fault = λ x y n. sym (fault_back x) ∙ ap fault_of n ∙ fault_back y;
      fault_told = fault_told;
      mode = found mode_number (λ m. (mode_wanted m, mode_output m)) find_mode back_mode;
      owner = found owner_number owner_input find_owner back_owner;
      heading = found heading_number heading_values find_heading back_heading;
    }
