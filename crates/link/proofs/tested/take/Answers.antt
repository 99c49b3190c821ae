-- Each test is looked at where those before it do not apply.
-- Assumes nothing.
use Rattle.vocabulary.specs.Refusals.{EMPTY, STATE, STORE}
use Rattle.link.proofs.TestedLaws.{past, stops, last, refused, past_record, record_stops}
use Rattle.link.proofs.tested.take.Goals as goal

pub returns-in_err-record : goal.returns-in_err-record
returns-in_err-record c = refused _ _ c.from_residual.ensures (record_stops c.args.words.now _ _ c.in_err-record.ensures)

pub returns-in_err-refuse : goal.returns-in_err-refuse
returns-in_err-refuse c =
    refused _ _ c.from_residual-in_err-refuse.ensures
    (past_record c.args.words.now _ c.in_ok-record.ensures
    (λ own.
    (stops STORE tt _ c.bad_size.ensures c.in_err-refuse.ensures)))

pub returns-in_err-refuse-2 : goal.returns-in_err-refuse-2
returns-in_err-refuse-2 c =
    refused _ _ c.from_residual-in_err-refuse-2.ensures
    (past_record c.args.words.now _ c.in_ok-record.ensures
    (λ own.
    (past STORE tt c.bad_size.ensures c.in_ok-refuse.ensures
    (stops STATE tt _ (c.bad_receive.ensures _ own) c.in_err-refuse-2.ensures))))

pub returns : goal.returns
returns c =
    past_record c.args.words.now _ c.in_ok-record.ensures
    (λ own.
    (past STORE tt c.bad_size.ensures c.in_ok-refuse.ensures
    (past STATE tt (c.bad_receive.ensures _ own) c.in_ok-refuse-2.ensures
    (last EMPTY tt _ (c.is_empty.ensures _ own) c.refuse-3.ensures))))
