-- The line of one report, and the lines of bits behind other bits.
-- Assumes nothing.
use mathlib.Core.Path.{◌≡◌, refl, sym, ap, ◌∙◌}
use mathlib.Core.Bool.{Bool, true, false}
use mathlib.Core.List.{List, [], ◌∷◌, ◌++◌, append-nil, append_assoc}
use Prim.Native.Nat.{ℕ, ◌+◌}
use native.Mathlib.Nat.{add-zero, add_assoc}
use native.Mathlib.Omega.{arith}
use lib.Dec.{eqb}
use lib.ListN.{length, length-append}
use Rattle.std.proofs.Common.{Option, None, Some, Result, Ok, Err}
use Rattle.std.specs.Result.{result_unwrap_or}
use Rattle.vocabulary.specs.Choice.{pick}
use Rattle.vocabulary.specs.declared.Refusal.{Refusal}
use Rattle.vocabulary.specs.Refusals.{refusal_in, answer_in}
use Rattle.vocabulary.specs.declared.Token.TheVariants.{Null, Fct, NChar, TimeCode}
use Rattle.characters.specs.Calls.{bit_answer}
use Rattle.words.specs.Words.{Left, word_at, truth}
use mir.Val.{bool_byte}
use Rattle.characters.specs.Reports.{report_words}
use Rattle.characters.specs.DecoderWords.{decoder_of, decoder_words, is_decoder, decoded, bit_left}
use Rattle.characters.proofs.FitsLaws.{bit_means, bit_is_decoder}
use Rattle.characters.specs.declared.reports.Report.{Report}
use Rattle.characters.specs.declared.reports.Report.TheVariants.{Got, ParityError, EscapeError, Disconnect}
use Rattle.characters_stream.specs.Meaning.{Line}
use Rattle.characters_stream.specs.Feeding.{line_of, fed, after}
use Rattle.characters_stream.proofs.FeedLaws.{fed_append, after_append}
use Rattle.listing.specs.Text.{line_text, text_of}
use Rattle.listing.specs.declared.Page.{Page}
use Rattle.listing.specs.declared.Listing.{Listing}
use Rattle.listing.specs.Writing.{Room, Puts, Progress, meant, more_text, progressed, Goes}
use Rattle.listing.proofs.WritingLaws.{nothing_put, room_first, room_second, both_put}

pub text_append : (xs ys : List Line) → text_of (xs ++ ys) ≡ text_of xs ++ text_of ys
unfolding text_of
text_append [] ys = refl
text_append (line ∷ xs) ys =
    ap (λ (text : List ℕ). line_text line.at line.report ++ text) (text_append xs ys)
    ∙ sym (append_assoc (line_text line.at line.report) (text_of xs) (text_of ys))

-- one bit gives the line of its report
pub more_of_one : (p : Progress) (b : Bool) →
    more_text p (b ∷ []) ≡ text_of (line_of (p.count + 1) (bit_answer p.decoder b).report)
unfolding more_text fed
more_of_one p b = ap text_of (append-nil _)

-- a report is told by its number and value
report_from : List ℕ → Option Report
report_from words =
    let value = word_at words 1 in
    pick (eqb (word_at words 0) 1) (Some (Got Null))
    (pick (eqb (word_at words 0) 2) (Some (Got Fct))
    (pick (eqb (word_at words 0) 3) (Some (Got (NChar value)))
    (pick (eqb (word_at words 0) 4) (Some (Got (TimeCode value)))
    (pick (eqb (word_at words 0) 5) (Some ParityError)
    (pick (eqb (word_at words 0) 6) (Some EscapeError) (pick (eqb (word_at words 0) 7) (Some Disconnect) None))))))

report_back : (r : Option Report) → report_from (report_words r) ≡ r
unfolding report_from
report_back None = refl
report_back (Some (Got Null)) = refl
report_back (Some (Got Fct)) = refl
report_back (Some (Got (NChar v))) = refl
report_back (Some (Got (TimeCode v))) = refl
report_back (Some ParityError) = refl
report_back (Some EscapeError) = refl
report_back (Some Disconnect) = refl

same_report : (r s : Option Report) → report_words r ≡ report_words s → r ≡ s
same_report r s e = sym (report_back r) ∙ ap report_from e ∙ report_back s

answer_read : (answered : Result (Option Report) Refusal) → answer_in None answered ≡ result_unwrap_or answered None
answer_read (Ok r) = refl
answer_read (Err refusal) = refl

bit_back : (b : Bool) → truth (bool_byte b) ≡ b
bit_back true = refl
bit_back false = refl

-- What a call of the decoder left: the words stay those of a decoder, and the line is that of the report.
module _ (l : Listing) (b : Bool) (answered : Result (Option Report) Refusal) {words : List ℕ} {word : ℕ}
    (took : record { refusal = refusal_in answered; state = words; out = report_words (answer_in None answered) } ≡
    bit_left l.words word) (is : word ≡ bool_byte b) where
  took_bit : record { refusal = refusal_in answered; state = words; out = report_words (answer_in None answered) } ≡
      decoded (bit_answer (decoder_of l.words) b)
  unfolding bit_left
  took_bit = took ∙ rw (is, l.decodes, bit_back b)

  bit_words : words ≡ decoder_words (bit_answer (decoder_of l.words) b).decoder
  unfolding decoded
  bit_words = ap (λ (left : Left). left.state) took_bit

  bit_report : result_unwrap_or answered None ≡ (bit_answer (decoder_of l.words) b).report
  unfolding decoded
  bit_report = sym (answer_read answered) ∙ same_report _ _ (ap (λ (left : Left). left.out) took_bit)

  pub still_decodes : is_decoder words ≡ true
  still_decodes = rw bit_words (bit_is_decoder l.words b)

  bit_text : {r : Option Report} → r ≡ result_unwrap_or answered None →
      more_text (meant l) (b ∷ []) ≡ text_of (line_of (l.count + 1) r)
  bit_text e = more_of_one (meant l) b ∙ rw (e, bit_report)

  pub report_text : {r : Report} → Some r ≡ result_unwrap_or answered None →
      more_text (meant l) (b ∷ []) ≡ line_text (l.count + 1) r
  unfolding text_of
  report_text e = bit_text e ∙ append-nil _

  pub no_text : None ≡ result_unwrap_or answered None → more_text (meant l) (b ∷ []) ≡ []
  unfolding text_of
  no_text e = bit_text e

  pub bit_taken : {next : Listing} {before behind : Page} → next.words ≡ words → next.count ≡ l.count + 1 →
      Puts before (more_text (meant l) (b ∷ [])) behind → Goes l before (b ∷ []) next behind
  unfolding progressed after
  bit_taken e n puts = record { progress = rw (e, n, bit_words, bit_means l.words b); written = puts }

module _ (p : Progress) (xs ys : List Bool) where
  pub more_of_both : more_text p (xs ++ ys) ≡ more_text p xs ++ more_text (progressed p xs) ys
  unfolding more_text progressed
  more_of_both =
      let e : (p.count + 1) + length xs ≡ (p.count + length xs) + 1 = omega arith in
      ap text_of (fed_append p.decoder (p.count + 1) xs ys)
      ∙ text_append (fed p.decoder (p.count + 1) xs) _
      ∙ ap (λ (n : ℕ). more_text p xs ++ text_of (fed (after p.decoder xs) n ys)) e

  pub progressed_both : progressed (progressed p xs) ys ≡ progressed p (xs ++ ys)
  unfolding progressed
  progressed_both = rw (length-append xs ys, after_append p.decoder xs ys, add_assoc p.count (length xs) (length ys))

nothing_taken : (l : Listing) (page : Page) → Goes l page [] l page
unfolding more_text progressed fed after text_of
nothing_taken l page = record { progress = rw (add-zero l.count); written = nothing_put page }

pub no_bits_taken : (l : Listing) (page : Page) {bits : List Bool} → bits ≡ [] → Goes l page bits l page
no_bits_taken l page none = rw none (nothing_taken l page)

-- bits behind other bits
module _ (l : Listing) (page : Page) (xs ys : List Bool) where
  pub room_before : Room page (more_text (meant l) (xs ++ ys)) → Room page (more_text (meant l) xs)
  room_before room = room_first (more_text (meant l) xs) _ (rw (more_of_both (meant l) xs ys) at room)

  module _ {next : Listing} {between : Page} (first : Goes l page xs next between) where
    pub room_behind : Room page (more_text (meant l) (xs ++ ys)) → Room between (more_text (meant next) ys)
    room_behind room =
        rw first.progress (room_second (more_text (meant l) xs) _ (rw (more_of_both (meant l) xs ys) at room) first.written)

    pub both_taken : {end : Listing} {last : Page} → Goes next between ys end last → Goes l page (xs ++ ys) end last
    both_taken second =
        record {
          progress = second.progress ∙ rw first.progress (progressed_both (meant l) xs ys);
          written = rw (more_of_both (meant l) xs ys)
              (both_put (more_text (meant l) xs) _ first.written (rw first.progress at second.written));
        }

pub count_after : {l next : Listing} {before behind : Page} {bits : List Bool} → Goes l before bits next behind →
    next.count ≡ l.count + length bits
unfolding progressed
count_after goes = ap (λ (p : Progress). p.count) goes.progress
