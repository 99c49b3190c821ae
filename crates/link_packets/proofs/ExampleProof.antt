-- The examples hold: some four hundred calls each, and antt computes them.
-- Assumes nothing.
use mathlib.Core.Path.{refl}
use mathlib.Core.List.{[], ◌∷◌}
use Rattle.vocabulary.specs.NChars.{EOP}
use Rattle.store.specs.Ring.{standing}
use Rattle.store.specs.Packets.{through_end, holds_end}
use Rattle.store.specs.Changes.{fresh_store, put_store, put_places, dropped, found_in, found}
use Rattle.time.specs.Time.{fresh_time, time_after}
use Rattle.link.specs.Ends.{fresh_link}
use Rattle.link.specs.Received.{fct_effect, n_char_effect, token_effect, token_places, counted}
use Rattle.link.specs.Send.{sending}
use Rattle.link.specs.Recovery.{closed_link, closed_places, rest_discarded, goes_down, moves_to, settles}
use Rattle.link.specs.Reset.{emptied_places, resets}
use Rattle.link.specs.Hosts.{puts, puts_places}
use Rattle.link.specs.Calls.{answered, accepted, tick_outcome, fault_outcome, control_outcome, reset_outcome, dispatch_of}
use Rattle.link.specs.Calls.{dispatched, send_outcome, receipt_of, received, token_accepted, receive_outcome, put_answer}
use Rattle.link.specs.Calls.{put_places_after, take_accepted, take_answer}
use Rattle.link_laws.specs.Calls.{replied, replied_to_send, replied_to_token, replied_to_take, end_after, fresh_end}
use Rattle.link_laws.specs.NothingLost.{gathered}
use Rattle.link_packets.specs.Stretches.{stretches}
use Rattle.link_packets.specs.GoodPackets.{nothing, beginning}
use Rattle.link_packets.specs.Examples.{Examples}

pub examples : Examples
unfolding standing through_end holds_end fresh_store put_store put_places dropped found_in found fresh_time time_after fresh_link fct_effect n_char_effect token_effect token_places counted sending closed_link closed_places rest_discarded goes_down moves_to settles emptied_places resets puts puts_places answered accepted tick_outcome fault_outcome control_outcome reset_outcome dispatch_of dispatched send_outcome receipt_of received token_accepted receive_outcome put_answer put_places_after take_accepted take_answer replied replied_to_send replied_to_token replied_to_take end_after fresh_end gathered stretches
examples =
    record {
      broken_off = refl;
      next_whole = refl;
      closed_first = refl;
      delivered = beginning (1 ∷ []) [] (beginning (3 ∷ EOP ∷ []) [] nothing);
      both_put = refl;
      one_read = refl;
      reset_closes = refl;
    }
