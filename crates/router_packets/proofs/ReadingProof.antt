-- A list of bodies, each with one end and that at its end, is read as those bodies.
-- Assumes nothing.
use Rattle.std.specs.Prelude.{Option, None, Some}
use mathlib.Core.Path.{◌≡◌, refl, sym, ap, ◌∙◌}
use mathlib.Core.Bool.{Bool, true, false}
use mathlib.Core.List.{List, [], ◌∷◌, ◌++◌, append_assoc, append-nil, Memᴰ}
use Prim.Native.Nat.{ℕ, ◌<◌}
use Rattle.vocabulary.specs.Choice.{pick}
use Rattle.vocabulary.specs.NChars.{is_end}
use Rattle.store.specs.Packets.{holds_end}
use Rattle.store.proofs.OrLaws.{or_left, or_right}
use Rattle.router_ports.specs.Ports.{fresh_router}
use Rattle.router_ports.specs.Places.{machine}
use Rattle.router.specs.Reached.{fresh}
use Rattle.router_rings.specs.Tied.{lists_of}
use Rattle.router_packets.specs.Ledger.{opened, after}
use Rattle.router_packets.specs.Journal.{Packet, Part, body, goes_to, sent_to, Journey, by_owner}
use Rattle.router_packets.specs.Reading.{Reading, reading, bodies_to, PacketsReadWhole}
use Rattle.router_packets.proofs.JournalLaws.{nothing_unended}
use Rattle.router_packets.proofs.SinceProof.{packet_integrity, reached_owners}

-- one packet more in front of what is read
abbrev with : List ℕ → Reading → Reading
with packet r = record { packets = packet ∷ r.packets; unfinished = r.unfinished }

read_body : (far cargo : List ℕ) (e : ℕ) (rest : List ℕ) → holds_end cargo ≡ false → is_end e ≡ true →
    reading far (cargo ++ e ∷ rest) ≡ with (far ++ (cargo ++ e ∷ [])) (reading [] rest)
unfolding reading holds_end
read_body far [] e rest none ended = rw ended
read_body far (n ∷ cargo) e rest none ended =
    ap (λ (b : Bool). pick b (with (far ++ n ∷ []) (reading [] (cargo ++ e ∷ rest))) (reading (far ++ n ∷ []) (cargo ++ e ∷ rest)))
    (or_left (is_end n) (holds_end cargo) none)
    ∙ read_body (far ++ n ∷ []) cargo e rest (or_right (is_end n) (holds_end cargo) none) ended
    ∙ ap (λ (ns : List ℕ). with ns (reading [] rest)) (append_assoc far (n ∷ []) (cargo ++ e ∷ []))

read_rest : (far cargo : List ℕ) → holds_end cargo ≡ false → reading far cargo ≡ record { packets = []; unfinished = far ++ cargo }
unfolding reading holds_end
read_rest far [] none = ap (λ (ns : List ℕ). record { packets = []; unfinished = ns }) (sym (append-nil far))
read_rest far (n ∷ cargo) none =
    ap (λ (b : Bool). pick b (with (far ++ n ∷ []) (reading [] cargo)) (reading (far ++ n ∷ []) cargo))
    (or_left (is_end n) (holds_end cargo) none)
    ∙ read_rest (far ++ n ∷ []) cargo (or_right (is_end n) (holds_end cargo) none)
    ∙ ap (λ (ns : List ℕ). record { packets = []; unfinished = ns }) (append_assoc far (n ∷ []) cargo)

cargo_unended : (header cargo : List ℕ) → holds_end (header ++ cargo) ≡ false → holds_end cargo ≡ false
unfolding holds_end
cargo_unended [] cargo none = none
cargo_unended (n ∷ header) cargo none = cargo_unended header cargo (or_right (is_end n) (holds_end (header ++ cargo)) none)

read_sent : (lent : List (List ℕ)) (o : ℕ) (ps : List Packet) → ((p : Packet) → Memᴰ p ps → Journey lent p) →
    (rest : List ℕ) → holds_end rest ≡ false →
    reading [] (sent_to o ps ++ rest) ≡ record { packets = bodies_to o ps; unfinished = rest }
unfolding sent_to bodies_to
read_sent lent o [] journeys rest none = read_rest [] rest none
read_sent lent o (p ∷ ps) journeys rest none =
    go (goes_to o p.fate) (read_sent lent o ps (λ q m. journeys q (Memᴰ.tail m)) rest none)
  where
    go : (b : Bool) → reading [] (sent_to o ps ++ rest) ≡ record { packets = bodies_to o ps; unfinished = rest } →
        reading [] (pick b (body p ++ sent_to o ps) (sent_to o ps) ++ rest)
        ≡ record { packets = pick b (body p ∷ bodies_to o ps) (bodies_to o ps); unfinished = rest }
    go true more =
        let one = journeys p (Memᴰ.head refl) in
        ap (reading [])
        (append_assoc (body p) (sent_to o ps) rest ∙ append_assoc p.cargo (p.end ∷ []) (sent_to o ps ++ rest))
        ∙ read_body [] p.cargo p.end (sent_to o ps ++ rest) (cargo_unended p.header p.cargo one.unended) one.ended
        ∙ ap (with (body p)) more
    go false more = more

pub packets_read_whole : PacketsReadWhole
packets_read_whole area good calls =
    let l = after (opened (machine fresh_router area)) calls in
    let y = lists_of l.now in
    let whole = packet_integrity area good calls in
    let owners = reached_owners (machine fresh_router area) (fresh area good) calls in
    let unended : (o : ℕ) → o < 11 → (w : Option ℕ) → (y.outputs o).owner ≡ w → holds_end (by_owner whole.parts w) ≡ false =
    λ o k w e. owner_unended whole.parts w
    (λ i f. (whole.progress i (owners.inside o i k (e ∙ f))).unended) in
    record {
      whole = whole;
      reads = λ o k. ap (reading []) (whole.outputs o k)
          ∙ read_sent l.lent o whole.finished whole.journeys (by_owner whole.parts (y.outputs o).owner)
          (unended o k (y.outputs o).owner refl);
    }
  where
    owner_unended : (parts : ℕ → Part) (w : Option ℕ) → ((i : ℕ) → w ≡ Some i → holds_end ((parts i).header ++ (parts i).cargo) ≡ false) →
        holds_end (by_owner parts w) ≡ false
    owner_unended parts None all = nothing_unended
    owner_unended parts (Some i) all = cargo_unended (parts i).header (parts i).cargo (all i refl)
