-- A byte more: the bits before it and its own are the bits as far as that.
-- Assumes nothing.
use mathlib.Core.Path.{◌≡◌}
use mathlib.Core.List.{◌++◌}
use Prim.Native.Nat.{◌+◌}
use native.Mathlib.Omega.{arith}
use lib.ListN.{length, get_or, take, drop}
use lib.Seq.{length-take-le}
use Rattle.listing.specs.Input.{bit_of, bits_in}
use Rattle.listing.proofs.InputLaws.{no_bytes, byte_taken, byte_within, bits_few}
use Rattle.listing.proofs.LineLaws.{no_bits_taken, room_before, room_behind, both_taken, count_after}
use Rattle.listing.proofs.Listing.take_bytes.Goals as goal

pub loop-byte-init : goal.loop-byte-init
loop-byte-init c = no_bits_taken c.args.self.now c.args.page.now no_bytes

pub take_byte-requires-clause-room : goal.take_byte-requires-clause-room
take_byte-requires-clause-room c =
    let bytes = c.args.bytes.now in
    let i = c.loop-byte.byte-index in
    let before = bits_in (take i bytes) in
    let here = bit_of (get_or bytes i 0) in
    let behind = bits_in (drop (i + 1) bytes) in
    let within = byte_within bytes i c.loop-byte-test.true in
    room_before c.loop-byte.self c.loop-byte.page here behind
    (room_behind c.args.self.now c.args.page.now before (here ++ behind) c.loop-byte.invariant (rw within at c.requires.room))

pub take_byte-requires-clause-count_bound : goal.take_byte-requires-clause-count_bound
take_byte-requires-clause-count_bound c =
    let bytes = c.args.bytes.now in
    let i = c.loop-byte.byte-index in
    let short : length (take i bytes) ≡ i = length-take-le i bytes (omega arith) in
    omega (arith, count_after c.loop-byte.invariant, bits_few (take i bytes))

pub loop-byte-preserved : goal.loop-byte-preserved
loop-byte-preserved c =
    let bytes = c.args.bytes.now in
    let i = c.loop-byte.byte-index in
    rw (byte_taken bytes i c.loop-byte-test.true)
    (both_taken c.args.self.now c.args.page.now (bits_in (take i bytes)) (bit_of (get_or bytes i 0)) c.loop-byte.invariant c.take_byte.ensures)
