-- The first byte that is not good stands where the good ones end.
-- Assumes nothing.
use Rattle.std.proofs.Common.{◌≡◌, ◌∙◌, rules, length, Some, None}
use lib.Dec.{ltb}
use mathlib.Core.Bool.{cond}
use borrow.Author.Tests.{tests}
use Rattle.std.specs.List.{position_or_len}
use Rattle.std.proofs.lemmas.Iterator.{YieldsList-from_slice}
use Rattle.std.proofs.lemmas.Iterator.Search.{position_from_yields_List}
use Rattle.listing.proofs.InputLaws.{is_bad, end_found}
use Rattle.listing.proofs.good_length.Goals as goal

pub returns : goal.returns
returns c =
    let input = c.args.input.now in
    let found : c.position.result ≡ cond (ltb (position_or_len is_bad input) (length input)) (Some (position_or_len is_bad input)) None =
    position_from_yields_List is_bad _ _ c.position.result c.position.ensures.ran (YieldsList-from_slice _ c.iter.ensures.rest) (λ x b q k. search (rules, tests)) in
    c.unwrap_or.ensures ∙ end_found input found
