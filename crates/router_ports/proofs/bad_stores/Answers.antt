-- The test of each store in turn.
-- Assumes nothing.
use Rattle.std.proofs.Common.{◌||◌, ℕ, List, leb, ltb, ap, ◌∙◌, rules, tests}
use Rattle.std.proofs.lemmas.Iterator.{YieldsList-from_slice}
use Rattle.std.proofs.lemmas.Iterator.Search.{any_from_yields_List}
use Rattle.std.specs.List.{list_any}
use Rattle.words.specs.Words.{word_at}
use Rattle.router_ports.proofs.StoreTestLaws.{bad_pairs}
use Rattle.router_ports.proofs.bad_stores.Goals as goal

pub returns : goal.returns
returns c =
    let bad = λ (row : List ℕ). leb c.args.size (word_at row 0) || ltb c.args.size (word_at row 1) in
    any_from_yields_List bad _ _ c.any.result c.any.ensures.ran (YieldsList-from_slice c.as_chunks.result.0.now (cc)) (λ x b q k. search (rules, tests))
    ∙ ap (list_any bad) c.as_chunks.ensures.front ∙ bad_pairs c.args.words.now c.args.size c.told-words
