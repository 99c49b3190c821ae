-- A packet that finishes is the last of its input's and of its output's, and nobody else's.
-- Assumes nothing.
use mathlib.Core.Path.{◌≡◌, refl, sym, ap, subst, ◌∙◌}
use mathlib.Core.Bool.{Bool, true, false}
use mathlib.Core.List.Memᴰ
use mathlib.Core.List.{List, [], ◌∷◌, ◌++◌, append_assoc, append-nil, Memᴰ}
use mathlib.Core.Logic.{⊎_elim}
use Prim.Native.Nat.{ℕ}
use lib.Dec.{eqb}
use borrow.Author.Tests.{eq-eqb, ne_eqb}
use Rattle.vocabulary.specs.Choice.{pick}
use Rattle.vocabulary.specs.NChars.{is_end}
use Rattle.store.specs.Packets.{holds_end}
use Rattle.store.proofs.OrLaws.{or_left, or_right}
use Rattle.router_packets.specs.Journal.{Packet, whole, body, goes_to, put_to, sent_to}

-- one more on one list, for any way to say which packets count and what of them

chosen : (b : Bool) (one more rest : List ℕ) → pick b (one ++ (more ++ rest)) (more ++ rest) ≡ pick b (one ++ more) more ++ rest
chosen true one more rest = sym (append_assoc one more rest)
chosen false one more rest = refl

alone : (b : Bool) (one : List ℕ) → pick b (one ++ []) [] ≡ pick b one []
alone true one = append-nil one
alone false one = refl

put_last : (i : ℕ) (ps : List Packet) (p : Packet) → put_to i (ps ++ p ∷ []) ≡ put_to i ps ++ pick (eqb p.input i) (whole p) []
unfolding put_to
put_last i [] p = alone (eqb p.input i) (whole p)
put_last i (q ∷ ps) p =
    ap (λ (ns : List ℕ). pick (eqb q.input i) (whole q ++ ns) ns) (put_last i ps p)
    ∙ chosen (eqb q.input i) (whole q) (put_to i ps) (pick (eqb p.input i) (whole p) [])

sent_last : (o : ℕ) (ps : List Packet) (p : Packet) → sent_to o (ps ++ p ∷ []) ≡ sent_to o ps ++ pick (goes_to o p.fate) (body p) []
unfolding sent_to
sent_last o [] p = alone (goes_to o p.fate) (body p)
sent_last o (q ∷ ps) p =
    ap (λ (ns : List ℕ). pick (goes_to o q.fate) (body q ++ ns) ns) (sent_last o ps p)
    ∙ chosen (goes_to o q.fate) (body q) (sent_to o ps) (pick (goes_to o p.fate) (body p) [])

module _ (ps : List Packet) (p : Packet) where
  pub put_mine : put_to p.input (ps ++ p ∷ []) ≡ put_to p.input ps ++ whole p
  put_mine =
      put_last p.input ps p
      ∙ ap (λ (b : Bool). put_to p.input ps ++ pick b (whole p) []) (eq-eqb p.input p.input refl)

  pub put_others : (j : ℕ) → (j ≡ p.input → ⊥) → put_to j (ps ++ p ∷ []) ≡ put_to j ps
  put_others j d =
      put_last j ps p
      ∙ ap (λ (b : Bool). put_to j ps ++ pick b (whole p) []) (ne_eqb p.input j (λ e. d (sym e)))
      ∙ append-nil (put_to j ps)

  pub sent_here : (o : ℕ) → goes_to o p.fate ≡ true → sent_to o (ps ++ p ∷ []) ≡ sent_to o ps ++ body p
  sent_here o e = sent_last o ps p ∙ ap (λ (b : Bool). sent_to o ps ++ pick b (body p) []) e

  pub sent_elsewhere : (o : ℕ) → goes_to o p.fate ≡ false → sent_to o (ps ++ p ∷ []) ≡ sent_to o ps
  sent_elsewhere o e = sent_last o ps p ∙ ap (λ (b : Bool). sent_to o ps ++ pick b (body p) []) e ∙ append-nil (sent_to o ps)

-- every packet of the longer journal had its journey
pub one_more : (P : Packet → Type 0) (ps : List Packet) (p : Packet) → ((q : Packet) → Memᴰ q ps → P q) → P p →
    (q : Packet) → Memᴰ q (ps ++ p ∷ []) → P q
one_more P [] p all one q m =
    ⊎_elim (λ e. subst P (sym e) one) (λ n. absurd (Memᴰ.not-nil n)) (Memᴰ.cases_cons m)
one_more P (r ∷ ps) p all one q m =
    ⊎_elim (λ e. subst P (sym e) (all r (Memᴰ.head refl)))
    (one_more P ps p (λ s n. all s (Memᴰ.tail n)) one q)
    (Memᴰ.cases_cons m)

-- data behind data holds no end
pub unended_more : (ns : List ℕ) (n : ℕ) → holds_end ns ≡ false → is_end n ≡ false → holds_end (ns ++ n ∷ []) ≡ false
unfolding holds_end
unended_more [] n h e = rw e
unended_more (m ∷ ns) n h e =
    rw (or_left (is_end m) (holds_end ns) h) (unended_more ns n (or_right (is_end m) (holds_end ns) h) e)

pub nothing_unended : holds_end [] ≡ false
unfolding holds_end
nothing_unended = refl

-- the same N-Chars, cut elsewhere

pub cut_move : (h c : List ℕ) (n : ℕ) (rest : List ℕ) → h ++ (c ++ n ∷ rest) ≡ h ++ ((c ++ n ∷ []) ++ rest)
cut_move h c n rest = ap (λ (ns : List ℕ). h ++ ns) (sym (append_assoc c (n ∷ []) rest))

pub cut_close : (past h c : List ℕ) (n : ℕ) (rest : List ℕ) →
    past ++ (h ++ (c ++ n ∷ rest)) ≡ (past ++ (h ++ (c ++ n ∷ []))) ++ rest
cut_close past h c n rest =
    ap (λ (ns : List ℕ). past ++ ns) (cut_move h c n rest ∙ sym (append_assoc h (c ++ n ∷ []) rest))
    ∙ sym (append_assoc past (h ++ (c ++ n ∷ [])) rest)

pub cut_tail : (tail : List ℕ) (n : ℕ) (rest : List ℕ) → tail ++ n ∷ rest ≡ (tail ++ n ∷ []) ++ rest
cut_tail tail n rest = sym (append_assoc tail (n ∷ []) rest)

pub behind_all : (past tail h c held : List ℕ) (n : ℕ) →
    (tail ++ (past ++ (h ++ (c ++ held)))) ++ n ∷ [] ≡ tail ++ (past ++ (h ++ (c ++ (held ++ n ∷ []))))
behind_all past tail h c held n =
    append_assoc tail (past ++ (h ++ (c ++ held))) (n ∷ [])
    ∙ ap (λ (ns : List ℕ). tail ++ ns)
    (append_assoc past (h ++ (c ++ held)) (n ∷ [])
    ∙ ap (λ (ns : List ℕ). past ++ ns)
    (append_assoc h (c ++ held) (n ∷ []) ∙ ap (λ (ns : List ℕ). h ++ ns) (append_assoc c held (n ∷ []))))
