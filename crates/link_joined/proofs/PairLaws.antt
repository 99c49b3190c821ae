-- Both directions at once. Every call at the near end keeps a pair: it accounts for what passed, or goes back to ErrorReset
-- and then takes nothing; and it meets no harm, since the token that comes was counted while it was under way.
-- Assumes nothing.
use mathlib.Core.Path.{◌≡◌, refl, sym, ap, subst, ◌∙◌}
use mathlib.Core.Bool.{Bool, true, false, ◌||◌, false≢true}
use mathlib.Core.List.{List, [], ◌∷◌, ◌++◌, append-nil, append_assoc}
use Prim.Native.Nat.{ℕ, suc, ◌+◌}
use native.Mathlib.Omega.{arith}
use lib.Dec.{eqb}
use lib.ListN.{length}
use borrow.Author.Tests.{le-ltb}
use Rattle.vocabulary.specs.Choice.{pick}
use Rattle.vocabulary.specs.declared.Token.{Token}
use Rattle.vocabulary.specs.declared.Token.TheVariants.{Null, Fct, NChar, TimeCode}
use Rattle.store.specs.Ring.{free}
use Rattle.store.proofs.OrLaws.{or_left, or_right}
use Rattle.time.specs.Time.{bad_time}
use Rattle.link.specs.Ends.{End}
use Rattle.link.specs.Calls.{both}
use Rattle.link_laws.specs.Tokens.{fcts_on, n_chars_on}
use Rattle.link_laws.specs.Calls.{Call, token_in, Turn}
use Rattle.link_laws.specs.NothingLost.{stored_by, taken_by, emptied_by}
use Rattle.link_laws.proofs.EndLaws.{record_passes, sizes_pass, stores_pass, good_passes}
use Rattle.link_laws.proofs.PassLaws.{Whole}
use Rattle.link_laws.proofs.WalkLaws.{Happened, happened}
use Rattle.link_laws.proofs.ChangeLaws.{stores_fit}
use Rattle.link_laws.proofs.CallLaws.{accounts}
use Rattle.link_laws.proofs.TimeLaws.{time_good}
use Rattle.link_joined.specs.Pair.{Node, Pair, swap, turn_at, reply_at, tokens_received, credit_error_on}
use Rattle.link_joined.specs.Pair.{full_store_at, booked, relieved, near_calls, is_down, is_over}
use Rattle.link_joined.specs.Joined.{Balanced, Unharmed, Delivers, Promise, Accepting}
use Rattle.link_joined.proofs.WireLaws.{fcts_append, nchars_add}
use Rattle.link_joined.proofs.UpLaws.{Up}
use Rattle.link_joined.proofs.TokenLaws.{Told, Expected, no_credit_error_lem}
use Rattle.link_joined.proofs.CallLaws.{AllExpected, Goes, call_goes, down_takes_none}
use Rattle.link_joined.proofs.FlowLaws.{NullFirst, known, on_wire, unsent, Flow, flow_delivers, flow_sends, flow_hears}

-- while neither end is back in ErrorReset
pub record Live (p : Pair) : Type 0 where
  pub near : Up p.near.end
  pub far : Up p.far.end
  pub near_clock : bad_time p.near.time ≡ false
  pub far_clock : bad_time p.far.time ≡ false
  pub there : Flow p.near p.far
  pub back : Flow p.far p.near

-- what every run keeps
pub record Kept (p : Pair) : Type 0 where
  pub live : is_down p.near ≡ false → is_down p.far ≡ false → Live p
  pub near_unharmed : Unharmed p.near
  pub far_unharmed : Unharmed p.far
  pub delivers_there : Delivers p.near p.far
  pub delivers_back : Delivers p.far p.near

-- from the other side

pub live_swapped : {p : Pair} → Live p → Live (swap p)
live_swapped live =
    record {
      near = live.far;
      far = live.near;
      near_clock = live.far_clock;
      far_clock = live.near_clock;
      there = live.back;
      back = live.there;
    }

pub kept_swapped : {p : Pair} → Kept p → Kept (swap p)
kept_swapped kept =
    record {
      live = λ h k. live_swapped (kept.live k h);
      near_unharmed = kept.far_unharmed;
      far_unharmed = kept.near_unharmed;
      delivers_there = kept.delivers_back;
      delivers_back = kept.delivers_there;
    }

-- what is kept is what is promised

balanced : {s r : Node} → Up r.end → Flow s r → Balanced s r
balanced u flow =
    record {
      balance = omega (arith, flow.sum, flow.count);
      at_most56 = omega (arith, flow.sum, u.good.sound.given_most);
      room = λ h. omega (arith, flow.sum, u.good.sound.given_room (λ none. omega (arith, flow.sum, none, h)));
    }

pub kept_live : {p : Pair} → Kept p → is_over p ≡ false → Live p
kept_live {p} kept h =
    kept.live (or_left (is_down p.near) (is_down p.far) h) (or_right (is_down p.near) (is_down p.far) h)

pub kept_promise : {p : Pair} → Kept p → Promise p
kept_promise {p} kept =
    record {
      there = λ h. balanced (kept_live kept h).far (kept_live kept h).there;
      back = λ h. balanced (kept_live kept h).near (kept_live kept h).back;
      near_unharmed = kept.near_unharmed;
      far_unharmed = kept.far_unharmed;
      delivers_there = kept.delivers_there;
      delivers_back = kept.delivers_back;
    }

-- the token that arrives first: a NULL, or one is known

told_by_null : (got : Bool) → got ≡ true → (t : Token) → Told got t
told_by_null got h Null = tt
told_by_null got h Fct = h
told_by_null got h (NChar n) = h
told_by_null got h (TimeCode v) = h

abbrev front_or : List Token → Token
front_or [] = Null
front_or (t ∷ ts) = t

told : {got sent : Bool} (t : Token) (left : List Token) → NullFirst got sent (t ∷ left) → Told got t
told {got} t left (known h) = told_by_null got h t
told {got} t left (on_wire ts e) = subst (Told got) (sym (ap front_or e)) tt
told t left (unsent none h) = absurd (let none' : suc (length left) ≡ 0 = ap length none in omega (arith, none'))

module _ (p : Pair) (live : Live p) where
  -- what is under way was counted in both sums
  expected : (t : Token) (left : List Token) → p.far.wire ≡ t ∷ left → Expected p.near.end t
  expected t left arriving =
      record {
        told = told t left (rw arriving at live.back.first);
        covered =
            omega
            (arith, live.there.sum, ap fcts_on arriving, fcts_append (t ∷ []) left, live.far.good.sound.given_most);
        granted =
            omega
            (arith, live.back.sum, ap (λ (ts : List Token). length (n_chars_on ts)) arriving, nchars_add (t ∷ []) left);
        whole = (subst Whole arriving live.back.whole).0;
      }

  pub near_accepting : Accepting p.near p.far.wire
  near_accepting =
      let e : End = p.near.end in
      let passes : both e ≡ 0 = good_passes e live.near.good in
      record {
        calls = passes;
        token = λ t left arriving.
            rw (
              record_passes e passes,
              live.near_clock,
              sizes_pass e passes,
              stores_pass e passes,
              (expected t left arriving).whole,
            );
      }

-- a call at the near end, with the first of what arrives where it is one of receive
module _ (p : Pair) (kept : Kept p) (live : Live p) (c : Call) (left : List Token) (arriving : p.far.wire ≡ token_in c ++ left)
  where
    abbrev n : Node
    n = p.near

    did : Happened n.end c (reply_at n c)
    did = happened n.end live.near.good n.time c

    all_expected : (ts : List Token) → p.far.wire ≡ ts ++ left → AllExpected n.end ts
    all_expected [] h = tt
    all_expected (t ∷ ts) h = expected p live t (ts ++ left) h

    goes : Goes n.end live.near c (reply_at n c)
    goes = call_goes n.end live.near did (all_expected (token_in c) arriving)

    abbrev accepted : Bool
    accepted = eqb (reply_at n c).refusal 0

    -- what stays on the wire
    abbrev stays : List Token
    stays = pick accepted left p.far.wire

    taken_off : p.far.wire ≡ tokens_received n c ++ stays
    taken_off = go accepted
      where
        go : (b : Bool) → p.far.wire ≡ pick b (token_in c) [] ++ pick b left p.far.wire
        go true = arriving
        go false = refl

    no_error : credit_error_on n (tokens_received n c) ≡ false
    no_error = go accepted (token_in c) (all_expected (token_in c) arriving)
      where
        go : (b : Bool) (ts : List Token) → AllExpected n.end ts → credit_error_on n (pick b ts []) ≡ false
        go false ts x = refl
        go true [] x = refl
        go true (t ∷ ts) x = no_credit_error_lem n.end live.near n.time t x

    not_full : full_store_at n c ≡ false
    not_full =
        let e : End = n.end in
        let t : Turn = turn_at n c in
        le-ltb (free (length e.rx) e.link.rx + length (taken_by e t) + length (emptied_by e t)) (length (stored_by e t))
        (stores_fit (accounts e live.near.good n.time c)
        (λ h. absurd (false≢true (sym live.near.keeps_puts ∙ h))))

    live_after : is_down (booked n c) ≡ false → Live (near_calls p c)
    unfolding booked relieved
    live_after up =
        record {
          near = (goes up).0;
          far = live.far;
          near_clock = time_good n.time live.near_clock n.end c;
          far_clock = live.far_clock;
          there = flow_sends n p.far c stays taken_off (goes up).1 live.near live.there;
          back = flow_hears n p.far c stays taken_off (goes up).1 live.back;
        }

    there_after : Delivers (booked n c) (relieved p.far (tokens_received n c))
    unfolding booked relieved
    there_after =
        let d : Delivers n p.far = kept.delivers_there in
        record {
          rest = d.rest ++ (reply_at n c).puts;
          delivered = sym (append_assoc p.far.counts.takes d.rest (reply_at n c).puts)
              ∙ ap (λ (ns : List ℕ). ns ++ (reply_at n c).puts) d.delivered;
        }

    back_after : Delivers (relieved p.far (tokens_received n c)) (booked n c)
    unfolding booked relieved
    back_after = go (is_down (booked n c)) refl
      where
        go : (down : Bool) → is_down (booked n c) ≡ down → Delivers (relieved p.far (tokens_received n c)) (booked n c)
        go true h =
            record {
              rest = kept.delivers_back.rest;
              delivered =
                  rw (down_takes_none n.end live.near did h, append-nil n.counts.takes)
                  kept.delivers_back.delivered;
            }
        go false h = flow_delivers (live_after h).back

    pub call_kept : Kept (near_calls p c)
    unfolding booked relieved
    call_kept =
        record {
          live = λ h k. live_after h;
          near_unharmed =
              record {
                no_credit_error =
                    ap (λ (b : Bool). b || credit_error_on n (tokens_received n c)) kept.near_unharmed.no_credit_error ∙ no_error;
                no_full_store = ap (λ (b : Bool). b || full_store_at n c) kept.near_unharmed.no_full_store ∙ not_full;
              };
          far_unharmed =
              record {
                no_credit_error = kept.far_unharmed.no_credit_error;
                no_full_store = kept.far_unharmed.no_full_store;
              };
          delivers_there = there_after;
          delivers_back = back_after;
        }
