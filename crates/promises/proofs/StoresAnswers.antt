-- `store`: each promise is an equation with a definition, so two answers that it allows are one.
-- Assumes nothing.
use mathlib.Core.Path.{sym, ◌∙◌}
use Rattle.promises.specs.OneAnswer.{OneResult, OnePlaces}
use Rattle.store.proofs.Store.fresh.Kinds as fresh_kinds
use Rattle.store.proofs.Store.fresh.Reads as fresh_reads
use Rattle.store.proofs.ArrayU322FromStore.from.Kinds as store_words_kinds
use Rattle.store.proofs.ArrayU322FromStore.from.Reads as store_words_reads
use Rattle.store.proofs.StoreFromArrayU322.from.Kinds as store_of_kinds
use Rattle.store.proofs.StoreFromArrayU322.from.Reads as store_of_reads
use Rattle.store.proofs.Store.is_bad.Kinds as is_bad_kinds
use Rattle.store.proofs.Store.is_bad.Reads as is_bad_reads
use Rattle.store.proofs.Store.is_empty.Kinds as is_empty_kinds
use Rattle.store.proofs.Store.is_empty.Reads as is_empty_reads
use Rattle.store.proofs.Store.is_full.Kinds as is_full_kinds
use Rattle.store.proofs.Store.is_full.Reads as is_full_reads
use Rattle.store.proofs.Store.free_places.Kinds as free_places_kinds
use Rattle.store.proofs.Store.free_places.Reads as free_places_reads
use Rattle.store.proofs.Store.put.Kinds as put_kinds
use Rattle.store.proofs.Store.put.Reads as put_reads
use Rattle.store.proofs.Store.look.Kinds as look_kinds
use Rattle.store.proofs.Store.look.Reads as look_reads
use Rattle.store.proofs.Store.drop_first.Kinds as drop_first_kinds
use Rattle.store.proofs.Store.drop_first.Reads as drop_first_reads
use Rattle.store.proofs.Store.drop_found.Kinds as drop_found_kinds
use Rattle.store.proofs.Store.drop_found.Reads as drop_found_reads
use Rattle.store.proofs.Store.find_end.Kinds as find_end_kinds
use Rattle.store.proofs.Store.find_end.Reads as find_end_reads

pub fresh : OneResult 0 fresh_kinds.ps fresh_kinds.r fresh_reads.Post
fresh κs a x y s t p q = p ∙ sym q

pub store_words : OneResult 0 store_words_kinds.ps store_words_kinds.r store_words_reads.Post
store_words κs a x y s t p q = p ∙ sym q

pub store_of : OneResult 0 store_of_kinds.ps store_of_kinds.r store_of_reads.Post
store_of κs a x y s t p q = p ∙ sym q

pub is_bad : OneResult 0 is_bad_kinds.ps is_bad_kinds.r is_bad_reads.Post
is_bad κs a x y s t p q = p ∙ sym q

pub is_empty : OneResult 0 is_empty_kinds.ps is_empty_kinds.r is_empty_reads.Post
is_empty κs a x y s t p q = p ∙ sym q

pub is_full : OneResult 0 is_full_kinds.ps is_full_kinds.r is_full_reads.Post
is_full κs a x y s t p q = p ∙ sym q

pub free_places : OneResult 0 free_places_kinds.ps free_places_kinds.r free_places_reads.Post
free_places κs a x y s t p q = p ∙ sym q

pub put : OneResult 1 put_kinds.ps put_kinds.r put_reads.Post
put κs a x y s t p q = p.0 ∙ sym q.0

pub put_places : OnePlaces 1 put_kinds.ps put_kinds.r put_reads.Post
    (λ κs s. s.1.0.now)
put_places κs a x y s t p q = p.1 ∙ sym q.1

pub look : OneResult 1 look_kinds.ps look_kinds.r look_reads.Post
look κs a x y s t p q = p ∙ sym q

pub drop_first : OneResult 1 drop_first_kinds.ps drop_first_kinds.r drop_first_reads.Post
drop_first κs a x y s t p q = p ∙ sym q

pub drop_found : OneResult 1 drop_found_kinds.ps drop_found_kinds.r drop_found_reads.Post
drop_found κs a x y s t p q = p ∙ sym q

pub find_end : OneResult 1 find_end_kinds.ps find_end_kinds.r find_end_reads.Post
find_end κs a x y s t p q = p ∙ sym q
