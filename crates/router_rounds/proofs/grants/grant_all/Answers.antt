-- An output that is held, or for which no candidate fits, brings nothing; one that finds the first that fits is granted it.
use Rattle.std.proofs.Common.{◌≡◌, Bool, true, false, not, [], arith, refl, sym, ap, ◌∙◌}
use Rattle.std.specs.Prelude.{Some, is_some}
use Rattle.router_ports.specs.declared.Output.{Output}
use Rattle.router_rounds.specs.Grants.{is_free, fits, grants, part2}
use Rattle.router_rounds.specs.InWords.{kept, in_words, tally, counted}
use Rattle.router_rounds.specs.declared.Totals.{Totals}
use Rattle.router_rounds.specs.declared.counts.Deed.TheVariants.{Nothing, Change}
use Rattle.router_rounds.proofs.GrantLaws.{candidate, finds, passes, runs_out, free_as, keeps_owner, takes_nobody, takes}
use Rattle.router_rounds.proofs.PartLaws.{one_served, all_served}
use Rattle.router_rounds.proofs.grants.grant_all.Goals as goal

freed : (out seen : Output) (b r : Bool) → seen ≡ out → r ≡ is_some seen.owner → r ≡ b → is_free out.owner ≡ not b
freed out seen b r e s h = free_as out.owner b (rw (← e) (sym s ∙ h))

pub outputs-preserved-then-is_some : goal.outputs-preserved-then-is_some
outputs-preserved-then-is_some c =
    let l = c.outputs in
    let held = freed _ _ true _ c.output_at-output.ensures c.is_some.ensures c.if-is_some.true in
    λ area.
    one_served (grants in_words) (kept c.args.state.now area) l.o l.done l.done (kept l.state area) _ Nothing
    c.outputs-test.true (l.invariant area) refl (λ k. sym (keeps_owner in_words (tally k (kept l.state area)) l.o held))

pub count-requires : goal.count-requires
count-requires c =
    let s = c.outputs.invariant [] in
    rw c.loop-k.invariant.1 (omega (arith, s.moved), omega (arith, s.errors))

pub outputs-preserved-then-waits_for : goal.outputs-preserved-then-waits_for
outputs-preserved-then-waits_for c =
    let l = c.outputs in
    let k = c.loop-k in
    let out = c.output_at-output in
    let fit = fits in_words (kept l.state []) l.o in
    let free = freed _ _ false _ out.ensures c.is_some.ensures c.if-is_some.false in
    let yes : fit (candidate out.result.last k.k) ≡ true = rw (← c.in_turn-i.ensures, ← k.invariant.0) (sym c.waits_for.ensures ∙ c.if-waits_for.true) in
    let first = rw out.ensures at (sym k.invariant.2 ∙ finds fit out.result.last k.k c.loop-k-test.true yes ∙ ap Some (sym c.in_turn-i.ensures)) in
    λ area.
    one_served (grants in_words) (kept c.args.state.now area) l.o l.done _ (kept l.state area) _ Change
    c.outputs-test.true (l.invariant area) (c.count.ensures ∙ ap (λ (d : Totals). counted d Change) k.invariant.1)
    (λ q. c.grant.ensures q area ∙ rw k.invariant.0 (sym (takes in_words (tally q (kept l.state area)) l.o free c.in_turn-i.result first)))

pub loop-k-preserved : goal.loop-k-preserved
loop-k-preserved c =
    let l = c.outputs in
    let k = c.loop-k in
    let last = c.output_at-output.result.last in
    let fit = fits in_words (kept l.state []) l.o in
    let no : fit (candidate last k.k) ≡ false = rw (← c.in_turn-i.ensures, ← k.invariant.0) (sym c.waits_for.ensures ∙ c.if-waits_for.false) in
    (k.invariant.0, k.invariant.1, sym (passes fit last k.k c.loop-k-test.true no) ∙ k.invariant.2)

pub outputs-preserved : goal.outputs-preserved
outputs-preserved c =
    let l = c.outputs in
    let k = c.loop-k in
    let out = c.output_at-output in
    let free = freed _ _ false _ out.ensures c.is_some.ensures c.if-is_some.false in
    let none = rw out.ensures at (sym k.invariant.2 ∙ runs_out (fits in_words (kept l.state []) l.o) out.result.last k.k c.loop-k-test.false) in
    λ area.
    rw (k.invariant.0, k.invariant.1)
    (one_served (grants in_words) (kept c.args.state.now area) l.o l.done l.done (kept l.state area) _ Nothing
    c.outputs-test.true (l.invariant area) refl (λ q. sym (takes_nobody in_words (tally q (kept l.state area)) l.o free none)))

pub returns : goal.returns
unfolding part2
returns c =
    λ k area.
    all_served (grants in_words) (kept c.args.state.now area) c.outputs.o c.outputs.done _
    c.outputs-test.false (c.outputs.invariant area) k
