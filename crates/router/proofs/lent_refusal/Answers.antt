-- The area is of a size that STORE allows, so the size of a store fits its word.
-- Assumes nothing.
use Rattle.std.proofs.Common.{◌≡◌, ◌∙◌, sym, false, arith}
use Rattle.std.proofs.lemmas.Grind.{common_steps}
use Rattle.router_ports.specs.RouterWords.{router_of}
use Rattle.router.proofs.RefusalLaws.{sized_stores, lent_last}
use Rattle.router.proofs.lent_refusal.Goals as goal

pub returns : goal.returns
returns c =
    let state : c.bad_state.result ≡ false = grind (arith, common_steps) in
    let area : c.bad_area.result ≡ false = grind (arith, common_steps) in
    let a = c.args in
    let good = sym c.bad_area.ensures ∙ area in
    let last = lent_last a.words.now a.area.now 0 (sym c.bad_state.ensures ∙ state) good in
    let stores = c.bad_stores.ensures ∙ sized_stores (router_of a.words.now) a.area.now c.narrow-size.result c.narrow-size.ensures good in
    grind (arith, common_steps, last, stores)
