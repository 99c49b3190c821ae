-- As of the calls from C: what the definition comes to at the arguments named is not what such a build answers or leaves there.
-- Assumes nothing.
use mathlib.Core.Path.{◌≡◌, refl, sym, ap, ◌∙◌}
use mathlib.Core.List.{List}
use Prim.Native.Nat.{ℕ}
use Rattle.vocabulary.specs.declared.Token.TheVariants.{Null, Fct}
use Rattle.vocabulary.specs.Tokens.{kind_of}
use native.Mathlib.Omega.{arith}
use Rattle.words.specs.Words.{Left, word_at}
use Rattle.link.specs.LinkCalls.{LinkLeft, ReceiveLeft}
use Rattle.router.specs.RouterCalls.{RouterLeft}
use Rattle.router.specs.HeldCalls.{HeldLeft, asked}
use Rattle.promises.proofs.WorthlessLeft.{come_to}
use Rattle.std.specs.Prelude.{Option, Some}
use Rattle.vocabulary.specs.declared.Token.{Token}
use Rattle.characters.specs.declared.reports.Report.{Report}
use Rattle.characters.specs.declared.reports.Report.TheVariants.{Got}
use Rattle.promises.specs.Promises.{Build, BreaksAt}
use Rattle.promises.specs.WorthlessCalls.{Bit, Tick, RouterRun, RefusingCalls, SaysOnlyNull, bit14, StaysInErrorReset, tick64}
use Rattle.promises.specs.WorthlessCalls.{IdleLater, to_output3, InventingCalls, WorthlessCallsShutOut, WorthlessCalls}
use Rattle.promises.proofs.EnumsProofs.{enums_numbered}
use Rattle.promises.proofs.RouterAnswers.{held_refusal}

refusing_all : RefusingCalls
unfolding asked
refusing_all =
    record {
      encode = λ build refuses κs kept. refuses κs _ (ap (λ (left : Left). left.refusal) kept ∙ come_to.accepted.encode);
      bit = λ build refuses κs kept. refuses κs _ (ap (λ (left : Left). left.refusal) kept ∙ come_to.accepted.bit);
      decoder_tick = λ build refuses κs kept. refuses κs _ (ap (λ (left : Left). left.refusal) kept ∙ come_to.accepted.decoder_tick);
      tick = λ build refuses κs kept. refuses κs _ (ap (λ (left : LinkLeft). left.refusal) kept ∙ come_to.accepted.tick);
      fault = λ build refuses κs kept. refuses κs _ (ap (λ (left : LinkLeft). left.refusal) kept ∙ come_to.accepted.fault);
      control = λ build refuses κs kept. refuses κs _ (ap (λ (left : LinkLeft). left.refusal) kept ∙ come_to.accepted.control);
      reset = λ build refuses κs kept. refuses κs _ (ap (λ (left : LinkLeft). left.refusal) kept ∙ come_to.accepted.reset);
      send = λ build refuses κs kept. refuses κs _ (ap (λ (left : LinkLeft). left.refusal) kept ∙ come_to.accepted.send);
      receive = λ build refuses κs kept. refuses κs _ (ap (λ (left : ReceiveLeft). left.refusal) kept ∙ come_to.accepted.receive);
      put = λ build refuses κs kept. refuses κs _ (ap (λ (left : LinkLeft). left.refusal) kept ∙ come_to.accepted.put);
      take = λ build refuses κs kept. refuses κs _ (ap (λ (left : Left). left.refusal) kept ∙ come_to.accepted.take);
      offer = λ build refuses κs kept. refuses κs _ (ap (λ (left : Left). left.refusal) kept ∙ come_to.accepted.offer);
      router_put = λ build refuses κs kept. refuses κs _ (ap (λ (left : RouterLeft). left.refusal) kept ∙ come_to.accepted.router_put);
      router_take = λ build refuses κs kept. refuses κs _ (ap (λ (left : RouterLeft). left.refusal) kept ∙ come_to.accepted.router_take);
      router_run = λ build refuses κs kept. refuses κs _ (ap (λ (left : RouterLeft). left.refusal) kept ∙ come_to.accepted.router_run);
      router_write = λ build refuses κs kept. refuses κs _ (kept.0 ∙ come_to.accepted.router_write);
      router_read = λ build refuses κs kept. refuses κs _ (kept.0 ∙ come_to.accepted.router_read);
      router_held = λ build refuses κs kept.
          refuses κs _ (sym (held_refusal _) ∙ ap (λ (left : HeldLeft). left.refusal) kept.1 ∙ come_to.accepted.router_held);
    }

fct_not_null : Fct ≡ Null → ⊥
fct_not_null e = absurd (omega (arith, ap kind_of e))

saying_null : (build : Build Bit) → SaysOnlyNull build → BreaksAt Bit bit14 build
saying_null build null κs kept =
    let words = ap (λ (left : Left). left.out) kept ∙ come_to.told.call_reported κs in
    fct_not_null (null κs (bit14 κs) Fct (
    enums_numbered.report _ (Some (Got Fct)) (ap (λ (two : List ℕ). word_at two 0) words) (ap (λ (two : List ℕ). word_at two 1) words)
    ))

staying : (build : Build Tick) → StaysInErrorReset build → BreaksAt Tick tick64 build
staying build stays κs kept =
    absurd (omega (
      arith,
      ap (λ (left : LinkLeft). word_at left.state 0) kept ∙ come_to.told.call_out_of_reset κs,
      stays κs (tick64 κs) (come_to.told.call_in_reset κs),
    ))

inventing : InventingCalls
inventing =
    record {
      put = λ build other κs kept. other κs (ap (λ (left : LinkLeft). word_at left.out 0) kept ∙ come_to.told.put);
      reset = λ build other κs kept. other κs (ap (λ (left : LinkLeft). word_at left.out 0) kept ∙ come_to.told.reset);
      fault = λ build other κs kept. other κs (ap (λ (left : LinkLeft). word_at left.out 0) kept ∙ come_to.told.fault);
      rounds = λ build other κs kept. other κs (ap (λ (left : RouterLeft). word_at left.out 0) kept ∙ come_to.told.rounds);
      moved = λ build other κs kept. other κs (ap (λ (left : RouterLeft). word_at left.out 1) kept ∙ come_to.told.moved);
      errors = λ build other κs kept. other κs (ap (λ (left : RouterLeft). word_at left.out 2) kept ∙ come_to.told.errors);
    }

idle_later : (build : Build RouterRun) → IdleLater build → BreaksAt RouterRun to_output3 build
idle_later build idles κs kept =
    absurd (omega (
      arith,
      sym come_to.told.ten_rounds
          ∙ sym (ap (λ (left : RouterLeft). word_at left.state 3) kept)
          ∙ ap (λ (words : List ℕ). word_at words 3) (idles κs _ _ _ 9)
          ∙ come_to.told.one_round,
    ))

pub worthless_calls_shut_out : WorthlessCallsShutOut
worthless_calls_shut_out =
    record {
      refusing_all = refusing_all;
      saying_null = saying_null;
      staying = staying;
      idle_later = idle_later;
      inventing = inventing;
    }

-- the token that a report tells
abbrev token_in : Option Report → Token
token_in (Some (Got t)) = t
token_in r = Null

pub worthless_calls : WorthlessCalls
worthless_calls =
    record {
      refuses_all = λ κs a none. absurd (omega (arith, none));
      says_null = λ κs a t says. sym (ap token_in says);
      stays = λ κs a here. here;
      idles_later = λ κs words area table more. refl;
      invents = λ κs one. absurd (omega (arith, one));
    }
