-- One law for each way out of an export.
use Rattle.std.proofs.Common.{Ok, Err, ◌≡◌, ℕ, ◌+◌, ◌-◌, ◌*◌, ◌/◌, ◌<◌, ◌≤◌, false, leb, List, [], length, get_or, take, drop, sym, refl, ap, ◌∙◌, arith, le-ltb, lt-ltb, eq-eqb, ne_eqb, le-leb}
use Rattle.std.specs.Prelude.{Result, IsErrAnd}
use borrow.Author.Tests.{lt-leb}
use Rattle.base.specs.Parts.{rest_lent}
use Rattle.layout.specs.Bytes.{bytes_of_word}
use Rattle.layout.specs.Memory.{lines_at}
use Rattle.status.specs.declared.Status.{Status}
use Rattle.status.specs.declared.Status.TheVariants as status
use Rattle.checks.specs.declared.Refusal.{Refusal}
use Rattle.checks.specs.declared.View.{View}
use Rattle.checks.specs.Refusals.{unvalued, board_checked}
use Rattle.checks.specs.View.{view_of}
use Rattle.checks.specs.Promises.{Opened}
use Rattle.picl.specs.Calls.{report}
use Rattle.intel_hex.specs.Records.{record_lines, records_of, bank_text, data_text, end_text}
use Rattle.intel_hex.specs.Places.{bank_records, last_of, pair_bytes, records_many, last_record, bank_number, pair_number}
use Rattle.intel_hex.specs.Export.{lines_on, record_at, most_text, export_checked, export_report, export_text, Exports}
use Rattle.intel_hex.specs.Promises.{Puts, Numbered, put_from, put_by}
use Rattle.intel_hex.specs.Laws.{lines_many}

-- ── 1 ──

pub board_out : (board text : List ℕ) (number : ℕ) (why : Refusal) → Err why ≡ board_checked board → (r : Result ℕ Refusal) → IsErrAnd r (λ f. f ≡ why)
    → Exports board number text text (put_by r)
unfolding export_report export_text export_checked
board_out board text number why is (Ok n) f = absurd f
board_out board text number why is (Err g) f = record { report = rw (← is, f) refl; text_left = rw (← is) }

-- ── 16, 17 and 18 ──

lines_lent : (board : List ℕ) (v : View) → Opened board v → (at : ℕ) → at ≡ lines_at v.shape.entries
    → take (length board - at) (drop at board) ≡ lines_on board
unfolding view_of
lines_lent board v o at e = rest_lent at board ∙ rw (e, o.is)

module _ (board text : List ℕ) (number : ℕ) (v : View) (passed : Ok v ≡ board_checked board) where
  pub short_out : length text < most_text → Exports board number text text (report status.Short 0)
  unfolding export_report export_text export_checked
  short_out h =
      record { report = rw (← passed, lt-ltb (length text) most_text h); text_left = rw (← passed, lt-ltb (length text) most_text h) }

  module _ (o : Opened board v) (room : most_text ≤ length text) (last : ℕ) (l : last ≡ last_of v.shape.lines) where
    records_are : length (records_of (lines_on board)) ≡ last + 1
    records_are =
        let many = lines_many board v o in
        records_many (lines_on board) (omega (arith, many, o.good.sizes.lines_some)) ∙ ap (λ (n : ℕ). last_of n + 1) many ∙ ap (λ (n : ℕ). n + 1) (sym l)

    pub past_out : last < number → Exports board number text text (report status.Past 0)
    unfolding export_report export_text export_checked
    past_out h =
        let past = le-leb (length (records_of (lines_on board))) number (omega (arith, records_are, h)) in
        record {
          report = rw (← passed, le-ltb (length text) most_text room, past);
          text_left = rw (← passed, le-ltb (length text) most_text room, past);
        }

    module _ (h : number ≤ last) where
      there : leb (length (records_of (lines_on board))) number ≡ false
      there = lt-leb (length (records_of (lines_on board))) number (omega (arith, records_are, h))

      pub held_out : (v.control.length ≡ 0 → ⊥) → Exports board number text text (report status.LogHeld 0)
      unfolding export_report export_text export_checked
      held_out n =
          record {
            report = rw (← passed, le-ltb (length text) most_text room, there, ne_eqb v.control.length 0 n);
            text_left = rw (← passed, le-ltb (length text) most_text room, there, ne_eqb v.control.length 0 n);
          }

      module _ (at : ℕ) (e : at ≡ lines_at v.shape.entries) where
        pub numbered : Numbered (take (length board - at) (drop at board)) text number last
        numbered =
            let many = lines_many board v o in
            rw (lines_lent board v o at e)
            (record {
              some = omega (arith, many, o.good.sizes.lines_some);
              most = omega (arith, many, o.good.sizes.lines_most);
              fits = room;
              is_last = l ∙ ap last_of (sym many);
              within = h;
            })

        pub done_out : v.control.length ≡ 0 → (text' : List ℕ) (k : ℕ)
            → Puts (get_or (records_of (take (length board - at) (drop at board))) number []) text text' k
            → Exports board number text text' (report status.Ok k)
        unfolding export_report export_text export_checked record_at
        done_out z text' k p =
            let q = rw (lines_lent board v o at e) at p in
            record {
              report = rw (← passed, le-ltb (length text) most_text room, there, eq-eqb v.control.length 0 z) (ap (λ (n : ℕ). report status.Ok n) q.many);
              text_left = rw (← passed, le-ltb (length text) most_text room, there, eq-eqb v.control.length 0 z) q.left;
            }

-- ── one record of a file ──

module _ (lines text : List ℕ) (number last : ℕ) (n : Numbered lines text number last) (text' : List ℕ) (r : ℕ) where
  pub end_out : number ≡ last → Puts end_text text text' r → Puts (get_or (records_of lines) number []) text text' r
  end_out e p = rw (last_record lines n.some number (e ∙ n.is_last)) p

  module _ (other : number ≡ last → ⊥) (bank : ℕ) (b : bank ≡ number / bank_records) where
    below : number < last_of (length lines)
    below = omega (arith, n.within, n.is_last, other)

    pub bank_out : number ≡ bank_records * bank → Puts (bank_text bank) text text' r → Puts (get_or (records_of lines) number []) text text' r
    bank_out e p = rw (bank_number lines n.some number bank below b e) p

    pub lines_out : (number ≡ bank_records * bank → ⊥)
        → Puts (data_text (bytes_of_word * (record_lines * (number - bank - 1))) (pair_bytes (drop (record_lines * (number - bank - 1)) lines))) text text' r
        → Puts (get_or (records_of lines) number []) text text' r
    lines_out e p = rw (pair_number lines n.some number bank below b e (record_lines * (number - bank - 1)) refl) p

-- ── the answer ──

pub refused_out : (board text text' : List ℕ) (number : ℕ) (why : Status) → Exports board number text text' (put_from (Err why))
    → (r : Result ℕ Refusal) → IsErrAnd r (λ f. f ≡ unvalued why) → Exports board number text text' (put_by r)
refused_out board text text' number why x (Ok n) f = absurd f
refused_out board text text' number why x (Err g) f = rw f x
