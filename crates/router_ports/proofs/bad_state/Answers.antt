-- The test of each port in turn.
-- Assumes nothing.
use Rattle.std.proofs.Common.{◌&&◌, ℕ, ltb, refl, sym, ◌∙◌, rules, tests}
use Rattle.std.proofs.lemmas.Iterator.{YieldsList-from_range}
use Rattle.std.proofs.lemmas.Iterator.Search.{any_from_yields_List}
use Rattle.router_ports.specs.StateWords.{bad_port_in}
use Rattle.router_ports.proofs.AnyLaws.{any_in_order}
use Rattle.router_ports.proofs.StateWordsLaws.{tested_state}
use Rattle.router_ports.proofs.bad_state.Goals as goal

pub returns : goal.returns
returns c =
    let words = c.args.words.now in
    let bad = λ (p : ℕ). ltb p 11 && bad_port_in words p in
    any_from_yields_List bad _ _ c.any.result c.any.ensures.ran (YieldsList-from_range 0 11 11 (cc) refl) (λ x b q k. search (rules, tests))
    ∙ any_in_order bad 0 11
    ∙ sym (tested_state words c.told-words c.fits-words)
