-- The fresh router's words: what its loop over the outputs writes is computed.
-- Assumes nothing.
use Rattle.std.proofs.Common.{◌≡◌, ℕ, zero, suc, ◌+◌, None, List, replicate, refl, ap, ◌∙◌, arith}
use Rattle.store.specs.Changes.{fresh_store}
use Rattle.router_ports.specs.Ports.{fresh_router}
use Rattle.router_ports.specs.RouterWords.{listed, router_words, with_output_in}

-- behind `o` outputs
unfoldable pub written : ℕ → List ℕ
written zero = replicate 110 0
written (suc o) = with_output_in (written o) o (record { owner = None; last = 10 })

pub all_written : written 11 ≡ router_words fresh_router
unfolding written fresh_router fresh_store router_words listed with_output_in
all_written = refl

pub one_more : (words next : List ℕ) (o : ℕ) → words ≡ written o →
    next ≡ with_output_in words o (record { owner = None; last = 10 }) → next ≡ written (o + 1)
unfolding written
one_more words next o so_far e =
    e ∙ ap (λ (before : List ℕ). with_output_in before o (record { owner = None; last = 10 })) so_far
    ∙ ap written (let more : suc o ≡ o + 1 = omega arith in more)
