-- The computed run: antt makes every call of it.
-- Assumes nothing.
use mathlib.Core.Path.{refl}
use Rattle.store.specs.Ring.{standing}
use Rattle.store.specs.Changes.{fresh_store, put_store, put_places, dropped}
use Rattle.time.specs.Time.{fresh_time}
use Rattle.link.specs.Ends.{fresh_link}
use Rattle.link.specs.Received.{fct_effect, n_char_effect, token_effect, token_places, counted}
use Rattle.link.specs.Send.{sending}
use Rattle.link.specs.Recovery.{moves_to, settles}
use Rattle.link.specs.Hosts.{puts, puts_places}
use Rattle.link.specs.Calls.{refused_with, answered, accepted, refused, tick_outcome, control_outcome, dispatch_of, dispatched}
use Rattle.link.specs.Calls.{send_refused, send_outcome, receipt_of, received, receive_refused, token_accepted, receive_outcome}
use Rattle.link.specs.Calls.{put_answer, put_places_after, take_accepted, take_refused, take_answer}
use Rattle.link_laws.specs.Calls.{replied, replied_to_send, replied_to_token, replied_to_take, end_after, fresh_end}
use Rattle.link_joined.specs.Pair.{booked, relieved, near_acts, run, start}
use Rattle.link_joined.specs.Joined.{Carries}

pub carries : Carries
unfolding standing fresh_store put_store put_places dropped fresh_time fresh_link fct_effect n_char_effect token_effect token_places counted sending moves_to settles puts puts_places refused_with answered accepted refused tick_outcome control_outcome dispatch_of dispatched send_refused send_outcome receipt_of received receive_refused token_accepted receive_outcome put_answer put_places_after take_accepted take_refused take_answer replied replied_to_send replied_to_token replied_to_take end_after fresh_end booked relieved near_acts run start
carries = record { near_runs = refl; far_runs = refl; near_took = refl; far_took = refl }
