-- The word and the token are tested in their order, and what passes is sent.
-- Assumes nothing.
use mathlib.Core.Path.{sym, ◌∙◌}
use Rattle.std.proofs.lemmas.Result.{err_from_is_err_and}
use Rattle.characters.proofs.EncoderLaws.{no_state, no_token, is_sent}
use Rattle.characters.proofs.encoder.encode.Goals as goal

pub returns-in_err-last : goal.returns-in_err-last
returns-in_err-last c =
    let p = err_from_is_err_and c.from_residual.result c.from_residual.ensures.1 in
    rw (p.1, p.2) (no_state c.args.words.now c.args.kind c.args.value (sym c.last_odd.ensures ∙ c.in_err-last.was))

pub returns-in_err-token : goal.returns-in_err-token
returns-in_err-token c =
    let p = err_from_is_err_and c.from_residual-in_err-token.result c.from_residual-in_err-token.ensures.1 in
    rw (p.1, p.2)
    (no_token c.args.words.now c.args.kind c.args.value (sym c.last_odd.ensures ∙ c.in_ok-last.was)
    (sym c.named_token.ensures ∙ c.in_err-token.was))

pub returns : goal.returns
returns c =
    rw c.truth_word.ensures
    (is_sent c.args.words.now c.args.kind c.args.value (sym c.last_odd.ensures ∙ c.in_ok-last.was)
    (sym c.named_token.ensures ∙ c.in_ok-token.was) c.sent-odd.ensures)
