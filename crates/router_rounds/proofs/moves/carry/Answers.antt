-- The input's record stands as it was read, since the output's store is behind it.
use Rattle.std.proofs.Common.{◌+◌, arith}
use Rattle.router_ports.specs.RouterWords.{without_front_in}
use Rattle.router_ports.proofs.PlaceWords.{store_picked}
use Rattle.router_rounds.specs.Moves.{carries}
use Rattle.router_rounds.proofs.CarryLaws.{behind_keeps}
use Rattle.router_rounds.proofs.moves.carry.Goals as goal

pub returns : goal.returns
unfolding carries without_front_in
returns c =
    let a = c.args in
    let kept = behind_keeps a.state.now a.i (11 + a.o) (omega (arith, c.requires)) (omega (arith, c.requires)) a.area.now a.n in
    rw (c.set_store.ensures, c.drop_of.ensures, c.append.ensures.0, c.append.ensures.1, c.store_at-st.ensures, store_picked, kept)
