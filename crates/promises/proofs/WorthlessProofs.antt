-- Each promise is an equation with a definition: what the definition computes to at the arguments named is not what such a
-- build answers or leaves there.
-- Assumes nothing.
use mathlib.Core.Path.{◌≡◌, refl, sym, ap, ◌∙◌}
use mathlib.Core.List.{List}
use Prim.Native.Nat.{ℕ, ◌≤◌}
use mathlib.Core.Bool.{Bool, true, false}
use lib.Dec.{eqb, leb}
use borrow.Author.Tests.{leb-false}
use Rattle.vocabulary.specs.Choice.{pick}
use Rattle.vocabulary.specs.declared.Token.TheVariants.{Null}
use Rattle.vocabulary.specs.Tokens.{kind_of}
use native.Mathlib.Omega.{arith}
use Rattle.words.specs.Words.{Left, word_at}
use Rattle.characters.specs.DecoderWords.{bit_left}
use Rattle.link.specs.LinkCalls.{LinkLeft, ReceiveLeft}
use Rattle.router.specs.RouterCalls.{RouterLeft}
use Rattle.router.specs.HeldCalls.{HeldLeft}
use Rattle.promises.proofs.WorthlessLeft.{come_to}
use Rattle.promises.specs.Promises.{Build, BreaksAt, Bit, Tick, RouterRun}
use Rattle.promises.specs.Worthless.{RefusingAll, SaysOnlyNull, bit14, StaysInErrorReset, tick64, IdleLater}
use Rattle.promises.specs.Worthless.{to_output3, Inventing, WorthlessBuildsShutOut, null_for, WorthlessBuilds}

refusing_all : RefusingAll
refusing_all =
    record {
      encode = λ build refuses κs kept. refuses κs _ (ap (λ (left : Left). left.refusal) kept ∙ come_to.accepted.encode);
      bit = λ build refuses κs kept. refuses κs _ (ap (λ (left : Left). left.refusal) kept ∙ come_to.accepted.bit);
      decoder_tick = λ build refuses κs kept. refuses κs _ (ap (λ (left : Left). left.refusal) kept ∙ come_to.accepted.decoder_tick);
      tick = λ build refuses κs kept. refuses κs _ (ap (λ (left : LinkLeft). left.refusal) kept ∙ come_to.accepted.tick);
      fault = λ build refuses κs kept. refuses κs _ (ap (λ (left : LinkLeft). left.refusal) kept ∙ come_to.accepted.fault);
      control = λ build refuses κs kept. refuses κs _ (ap (λ (left : LinkLeft). left.refusal) kept ∙ come_to.accepted.control);
      reset = λ build refuses κs kept. refuses κs _ (ap (λ (left : LinkLeft). left.refusal) kept ∙ come_to.accepted.reset);
      send = λ build refuses κs kept. refuses κs _ (ap (λ (left : LinkLeft). left.refusal) kept ∙ come_to.accepted.send);
      receive = λ build refuses κs kept. refuses κs _ (ap (λ (left : ReceiveLeft). left.refusal) kept ∙ come_to.accepted.receive);
      put = λ build refuses κs kept. refuses κs _ (ap (λ (left : LinkLeft). left.refusal) kept ∙ come_to.accepted.put);
      take = λ build refuses κs kept. refuses κs _ (ap (λ (left : Left). left.refusal) kept ∙ come_to.accepted.take);
      offer = λ build refuses κs kept. refuses κs _ (ap (λ (left : Left). left.refusal) kept ∙ come_to.accepted.offer);
      router_put = λ build refuses κs kept. refuses κs _ (ap (λ (left : RouterLeft). left.refusal) kept ∙ come_to.accepted.router_put);
      router_take = λ build refuses κs kept. refuses κs _ (ap (λ (left : RouterLeft). left.refusal) kept ∙ come_to.accepted.router_take);
      router_run = λ build refuses κs kept. refuses κs _ (ap (λ (left : RouterLeft). left.refusal) kept ∙ come_to.accepted.router_run);
      router_write = λ build refuses κs kept. refuses κs _ (kept.0 ∙ come_to.accepted.router_write);
      router_read = λ build refuses κs kept. refuses κs _ (kept.0 ∙ come_to.accepted.router_read);
      router_held = λ build refuses κs kept. refuses κs _ (ap (λ (left : HeldLeft). left.refusal) kept ∙ come_to.accepted.router_held);
    }

saying_null : (build : Build Bit) → SaysOnlyNull build → BreaksAt Bit bit14 build
saying_null build null κs kept =
    let kind = ap (λ (left : Left). word_at left.out 0) kept ∙ come_to.told.reported κs in
    absurd (omega (arith, kind, null κs (bit14 κs) (omega (arith, kind)) (omega (arith, kind))))

staying : (build : Build Tick) → StaysInErrorReset build → BreaksAt Tick tick64 build
staying build stays κs kept =
    absurd (omega (
      arith,
      ap (λ (left : LinkLeft). word_at left.state 0) kept ∙ come_to.told.out_of_reset κs,
      stays κs (tick64 κs) (come_to.told.in_reset κs),
    ))

inventing : Inventing
inventing =
    record {
      put = λ build other κs kept. other κs (ap (λ (left : LinkLeft). word_at left.out 0) kept ∙ come_to.told.put);
      reset = λ build other κs kept. other κs (ap (λ (left : LinkLeft). word_at left.out 0) kept ∙ come_to.told.reset);
      fault = λ build other κs kept. other κs (ap (λ (left : LinkLeft). word_at left.out 0) kept ∙ come_to.told.fault);
      rounds = λ build other κs kept. other κs (ap (λ (left : RouterLeft). word_at left.out 0) kept ∙ come_to.told.rounds);
      moved = λ build other κs kept. other κs (ap (λ (left : RouterLeft). word_at left.out 1) kept ∙ come_to.told.moved);
      errors = λ build other κs kept. other κs (ap (λ (left : RouterLeft). word_at left.out 2) kept ∙ come_to.told.errors);
    }

idle_later : (build : Build RouterRun) → IdleLater build → BreaksAt RouterRun to_output3 build
idle_later build idles κs kept =
    absurd (omega (
      arith,
      sym come_to.told.ten_rounds
          ∙ sym (ap (λ (left : RouterLeft). word_at left.state 3) kept)
          ∙ ap (λ (words : List ℕ). word_at words 3) (idles κs _ _ _ _ 9)
          ∙ come_to.told.one_round,
    ))

pub worthless_builds_shut_out : WorthlessBuildsShutOut
worthless_builds_shut_out =
    record {
      refusing_all = refusing_all;
      saying_null = saying_null;
      staying = staying;
      idle_later = idle_later;
      inventing = inventing;
    }

null_for_lem : (kind : ℕ) → 1 ≤ null_for kind → null_for kind ≤ 4 → null_for kind ≡ kind_of Null
null_for_lem kind = by (leb kind 4) refl (eqb kind 0)
  where
    by : (token : Bool) → leb kind 4 ≡ token → (none : Bool) → 1 ≤ pick token (pick none 0 (kind_of Null)) kind →
        pick token (pick none 0 (kind_of Null)) kind ≤ 4 → pick token (pick none 0 (kind_of Null)) kind ≡ kind_of Null
    by true e true least most = absurd (omega arith)
    by true e false least most = refl
    by false e none least most = absurd (omega (arith, leb-false kind 4 e))

pub worthless_builds : WorthlessBuilds
worthless_builds =
    record {
      refuses_all = λ κs a none. absurd (omega (arith, none));
      says_null = λ κs a. null_for_lem (word_at (bit_left a.0.now a.1.0).out 0);
      stays = λ κs a here. here;
      idles_later = λ κs words area table answer more. refl;
      invents = λ κs one. absurd (omega (arith, one));
    }
