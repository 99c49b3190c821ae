-- What a function does to the words of an end that it is lent, said of the end whose words they are. A function that is lent
-- other words refuses them before it comes to this.
-- Assumes nothing.
use Rattle.std.specs.Prelude.{ℕ, ◌+◌, ◌^◌, ◌≤◌, ◌<◌, ◌≡◌, false, List, length, set}
use Rattle.words.specs.Words.{word_at, narrow}
use Rattle.store.specs.StoreWords.{store_of}
use Rattle.store.specs.declared.Store.{Store}
use Rattle.link.specs.Records.{Link, Effect}
use Rattle.link.specs.Ends.{End, Settled}
use Rattle.link.specs.Refusals.{bad_record}
use Rattle.link.specs.LinkWords.{link_words, FitsOffer}
use Rattle.link.specs.declared.Heard.{Heard}

-- what is read from the words of an end
abbrev pub Reads : {A : Type 0} → List ℕ → (Link → A) → A → Type 0
Reads words field r = (l : Link) → words ≡ link_words l → r ≡ field l

-- the words of the changed end are left
abbrev pub Writes : List ℕ → (Link → Link) → List ℕ → Type 0
Writes words change after = (l : Link) → words ≡ link_words l → after ≡ link_words (change l)

-- the same where a store is changed: its places are as many as 2 STORE allows, so its numbers fit their words
abbrev pub SmallEnough : List ℕ → Type 0
SmallEnough places = length places ≤ 4096

abbrev pub FitsStore : Store → Type 0
FitsStore s = (s.front < 2 ^ 32) × (s.len < 2 ^ 32)

-- the store whose two words stand from `at` on, and the words with another one there
abbrev pub store_in : List ℕ → ℕ → Store
store_in words at = store_of (word_at words at) (word_at words (at + 1))

abbrev pub with_store : List ℕ → ℕ → Store → List ℕ
with_store words at s = set (set words at s.front) (at + 1) s.len

-- the same of an end whose record passed its tests, and whose Time-Code has eight bits
abbrev pub Good : Link → Type 0
Good l = (bad_record l ≡ false) × FitsOffer l.offer

abbrev pub ReadsGood : {A : Type 0} → List ℕ → (Link → A) → A → Type 0
ReadsGood words field r = (l : Link) → words ≡ link_words l → Good l → r ≡ field l

abbrev pub WritesGood : List ℕ → (Link → Link) → List ℕ → Type 0
WritesGood words change after = (l : Link) → words ≡ link_words l → Good l → after ≡ link_words (change l)

-- what a move or a reset leaves of an end with these places: the words, the count of discarded N-Chars, the receive places
abbrev pub Settles : List ℕ → List ℕ → List ℕ → (End → Settled) → List ℕ → ℕ → List ℕ → Type 0
Settles words rx tx change after discarded rx' =
    SmallEnough rx → SmallEnough tx → (l : Link) → words ≡ link_words l →
    (after ≡ link_words (change (record { link = l; rx = rx; tx = tx })).moved.link)
    × (discarded ≡ narrow (change (record { link = l; rx = rx; tx = tx })).moved.discarded)
    × (rx' ≡ (change (record { link = l; rx = rx; tx = tx })).rx)

-- what a token or a fault does before the move, beside the words
abbrev pub heard_of : Effect → Heard
heard_of f = record { event = f.event; time = f.time; tick = f.tick }

abbrev pub Hears : List ℕ → List ℕ → (Link → Effect) → (Link → List ℕ) → Heard → List ℕ → List ℕ → Type 0
Hears words rx effect places r after rx' =
    SmallEnough rx → (l : Link) → words ≡ link_words l → Good l →
    (r ≡ heard_of (effect l)) × (after ≡ link_words (effect l).link) × (rx' ≡ places l)
