-- A number of ten or more is its tenth, in one place fewer, and then its last digit: the places fall.
-- Assumes nothing.
use Rattle.listing.proofs.Page.+put_number.Given as goal

abbrev pub decreases-put_number : goal.decreases-put_number
decreases-put_number l = l.places
