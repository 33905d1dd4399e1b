-- An image written word by word.
use Prim.Native.Nat.{ℕ, ◌+◌, ◌*◌, ◌<◌, ◌≤◌}
use mathlib.Core.Path.{◌≡◌, refl, sym, ap, ◌∙◌}
use mathlib.Core.List.{List, [], ◌∷◌, ◌++◌, append-nil, append_assoc}
use native.Mathlib.Numerals.{add-one}
use native.Mathlib.Omega.{arith}
use lib.ListN.{length, get_or, take}
use lib.Seq.{take_all, take-suc}
use Rattle.layout.specs.Bytes.{bytes_of_word, bytes_of}
use Rattle.text.specs.Printing.{Prints, PrintsOn, prints_none, prints_as, prints_then}
use Rattle.text.specs.declared.Printer.{Printer}
use Rattle.image.specs.Image.{image_of}
use Rattle.image.specs.Laws.{length_bytes}

pub word_put : (word at r : ℕ) (bytes out out' : List ℕ) → bytes ≡ bytes_of word → Prints (length bytes) out at bytes out' r
    → Prints bytes_of_word out at (bytes_of word) out' r
word_put word at r bytes out out' e p = prints_as e (rw (e, length_bytes word) (omega arith)) p

image_more : (ws : List ℕ) (w : ℕ) → image_of (ws ++ (w ∷ [])) ≡ image_of ws ++ bytes_of w
unfolding image_of
image_more [] w = append-nil (bytes_of w)
image_more (x ∷ ws) w = ap (λ (bytes : List ℕ). bytes_of x ++ bytes) (image_more ws w) ∙ sym (append_assoc (bytes_of x) (image_of ws) (bytes_of w))

-- the image of the first k words
pub record Writing (words : List ℕ) (first p : Printer) (k : ℕ) : Type 0 where
  pub within : k ≤ length words
  pub prints : PrintsOn (bytes_of_word * k) first (image_of (take k words)) p

pub write_start : (words : List ℕ) (p : Printer) → Writing words p p 0
unfolding image_of
write_start words p = record { within = omega arith; prints = record { same = refl; many = refl; printed = prints_none (bytes_of_word * 0) p.out.now p.used } }

module _ (words bytes : List ℕ) (first p : Printer) (k : ℕ) (s : Writing words first p k) (e : bytes ≡ bytes_of (get_or words k 0)) where
  pub write_ready : first.used + bytes_of_word * length words ≤ length first.out.now → k < length words → p.used + length bytes ≤ length p.out.now
  write_ready h g = rw (e, length_bytes (get_or words k 0)) (omega (arith, h, g, s.prints.many, s.prints.printed.end, s.prints.printed.short))

  pub write_next : k < length words → (p' : Printer) → PrintsOn (length bytes) p bytes p' → Writing words first p' (k + 1)
  write_next g p' put =
      let more : take (k + 1) words ≡ take k words ++ (get_or words k 0 ∷ []) = rw add-one (take-suc words k 0 g) in
      let printed = prints_then s.prints.printed (word_put (get_or words k 0) p.used p'.used bytes p.out.now p'.out.now e put.printed) in
      record {
        within = omega arith;
        prints = record {
          same = put.same ∙ s.prints.same;
          many = put.many ∙ s.prints.many;
          printed = prints_as (sym (ap image_of more ∙ image_more (take k words) (get_or words k 0))) (omega arith) printed;
        };
      }

pub write_end : (words : List ℕ) (first p : Printer) (k : ℕ) → Writing words first p k → length words ≤ k
    → PrintsOn (bytes_of_word * length words) first (image_of words) p
write_end words first p k s h =
    record {
      same = s.prints.same;
      many = s.prints.many;
      printed = prints_as (ap image_of (take_all k words h)) (omega (arith, s.within)) s.prints.printed;
    }
