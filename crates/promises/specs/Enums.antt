-- 01, Forms we want to see: "Where an answer is an enum, a definition gives this paper's number and values for every one of
-- its cases." That number and values leave nothing out: they say which case it is, and what it carries.
-- Assumes nothing.
use Rattle.std.specs.Prelude.{◌≡◌, ℕ, false}
use Rattle.vocabulary.specs.Refusals.{number}
use Rattle.vocabulary.specs.declared.Refusal.{Refusal}
use Rattle.vocabulary.specs.Tokens.{kind_of, value_of}
use Rattle.characters.specs.Reports.{report_kind, report_value}
use Rattle.link.specs.Moves.{state_number}
use Rattle.link.specs.Send.{sent_kind, sent_value, offer_number, offer_value}
use Rattle.link.specs.LinkCalls.{fault_number, fault_of, no_fault}
use Rattle.link.specs.declared.LinkState.{LinkState}
use Rattle.link.specs.declared.FaultKind.{FaultKind}
use Rattle.router_table.specs.Headings.{heading_number, heading_values}
use Rattle.router_ports.specs.Numbers.{mode_number, mode_wanted, mode_output, owner_number, owner_input}
use Rattle.router_ports.specs.declared.Wanted.{Wanted}
use Rattle.router_ports.specs.declared.Mode.{Mode}

-- two answers with one number and the same values are one
abbrev pub SaysAll : {Enum Values : Type 0} → (Enum → ℕ) → (Enum → Values) → Type 0
SaysAll {Enum} number values = (x y : Enum) → number x ≡ number y → values x ≡ values y → x ≡ y

pub record EnumsNumbered : Type 0 where
  pub token : SaysAll kind_of value_of
  pub report : SaysAll report_kind report_value
  pub sent : SaysAll sent_kind sent_value
  pub offer : SaysAll offer_number offer_value
  pub state : (x y : LinkState) → state_number x ≡ state_number y → x ≡ y
  pub refusal : (x y : Refusal) → number x ≡ number y → x ≡ y
  pub fault : (x y : FaultKind) → fault_number x ≡ fault_number y → x ≡ y
  -- a fault told by its number is of the kind that has that number
  pub fault_told : (kind : ℕ) → no_fault kind ≡ false → fault_number (fault_of kind) ≡ kind
  pub mode : SaysAll {Values = Wanted × ℕ} mode_number (λ (m : Mode). (mode_wanted m, mode_output m))
  pub owner : SaysAll owner_number owner_input
  pub heading : SaysAll heading_number heading_values
