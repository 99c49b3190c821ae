-- The starred cases of the link end hold: each is a few calls, or some two hundred, and antt computes it.
-- Assumes nothing.
use mathlib.Core.Path.{refl}
use Rattle.store.specs.Ring.{standing}
use Rattle.store.specs.Changes.{fresh_store, put_store, put_places}
use Rattle.time.specs.Time.{fresh_time, time_after}
use Rattle.link.specs.Ends.{fresh_link}
use Rattle.link.specs.Received.{fct_effect, n_char_effect, time_code_effect, token_effect, token_places}
use Rattle.link.specs.Received.{counted}
use Rattle.link.specs.Send.{sending}
use Rattle.link.specs.Recovery.{closed_link, closed_places, rest_discarded, goes_down, moves_to, settles}
use Rattle.link.specs.Calls.{answered, accepted, tick_outcome, control_outcome, dispatch_of, dispatched, send_outcome}
use Rattle.link.specs.Calls.{receipt_of, received, token_accepted, receive_outcome}
use Rattle.link_laws.specs.Calls.{replied, replied_to_send, replied_to_token, end_after, fresh_end}
use Rattle.link_laws.specs.Cases.{LinkCases}

pub link_cases : LinkCases
unfolding fresh_store put_store put_places standing fresh_time time_after fresh_link fct_effect n_char_effect time_code_effect token_effect token_places counted sending closed_link closed_places rest_discarded goes_down moves_to settles answered accepted tick_outcome control_outcome dispatch_of dispatched send_outcome receipt_of received token_accepted receive_outcome replied replied_to_send replied_to_token end_after fresh_end
link_cases =
    record {
      tick_63 = refl;
      tick_64 = refl;
      tick_192 = refl;
      tick_193 = refl;
      held_48 = refl;
      held_49 = refl;
      held_49_ends = refl;
      free_57 = refl;
      free_56 = refl;
      given_49 = λ free. refl;
      given_1 = refl;
      given_0 = refl;
      given_0_ends = refl;
      given_0_stores_none = refl;
      first_send = refl;
      second_send = refl;
      time_code_0 = refl;
      time_code_0_counts = refl;
      time_code_1 = refl;
      time_code_1_stays = refl;
    }
