-- Writing a sheet, share by share. Assumes nothing.
use mathlib.Core.Path.{◌≡◌, refl, sym, ◌∙◌, ap, ap₂}
use mathlib.Core.List.{List, ◌++◌}
use Prim.Native.Nat.{ℕ, ◌+◌, ◌*◌, ◌/◌, ◌%◌, ◌≤◌, ◌<◌}
use native.Mathlib.Omega.{arith}
use borrow.Author.Count.{below_more}
use lib.ListN.{length, take, drop, set, length-set, take-append-drop}
use lib.Seq.{get_or-take, drop-set-lt, drop-drop, length-take-le}
use Rattle.density.specs.Net.{Side, first, second}
use Rattle.arrays.specs.At.{at}
use Rattle.arrays.proofs.Stores.{at_set_here, at_set_off}
use Rattle.arrays.specs.Arrays.{shares_in}
use Rattle.records.specs.Format.{two_at}
use Rattle.checker.specs.Sheet.{sheet_size, sheet_in}
use Rattle.counter.specs.Written.{SheetWritten}

-- a number in two bytes, read back and beside others
two_back : (l : List ℕ) (p x : ℕ) → p + 1 < length l → x < 65536 → two_at (set (set l p (x % 256)) (p + 1) (x / 256 % 256)) p ≡ x
unfolding two_at
two_back l p x long small =
    grind (arith, at_set_here, at_set_off, length-set {A = ℕ})

two_beside : (l : List ℕ) (p q x y : ℕ) → q + 1 < p → two_at (set (set l p x) (p + 1) y) q ≡ two_at l q
unfolding two_at
two_beside l p q x y before =
    ap₂ (λ (a b : ℕ). a + 256 * b) (byte q (omega arith)) (byte (q + 1) before)
  where
    byte : (i : ℕ) → i < p → at (set (set l p x) (p + 1) y) i ≡ at l i
    byte i h = at_set_off (set l p x) (p + 1) y i (λ e. omega arith) ∙ at_set_off l p x i (λ e. omega arith)

-- the first k shares are written
pub record SharesWritten (k : ℕ) (shares before after : List ℕ) : Type 0 where
  pub long : length after ≡ length before
  pub rest : drop (2 * k) after ≡ drop (2 * k) before
  pub share_is : (i : ℕ) → i < k → two_at after (2 * i) ≡ at shares i

pub none_written : (shares before : List ℕ) → SharesWritten 0 shares before before
none_written shares before = record { long = refl; rest = refl; share_is = λ i l. absurd (omega arith) }

pub one_written : {k x : ℕ} {shares before after next : List ℕ} → SharesWritten k shares before after → 2 * k + 1 < length before
    → x ≡ at shares k → x < 65536 → next ≡ set (set after (2 * k) (x % 256)) (2 * k + 1) (x / 256 % 256) → SharesWritten (k + 1) shares before next
one_written {k} {x} {shares} {before} {after} w room is small e =
    record {
      long = ap length e ∙ simp length-set w.long;
      rest =
          ap (drop (2 * (k + 1))) e
          ∙ drop-set-lt (2 * (k + 1)) (set after (2 * k) (x % 256)) (2 * k + 1) (x / 256 % 256) (omega arith)
          ∙ drop-set-lt (2 * (k + 1)) after (2 * k) (x % 256) (omega arith)
          ∙ split after
          ∙ ap (drop 2) w.rest
          ∙ sym (split before);
      share_is = rw e
          (below_more (λ i. two_at (set (set after (2 * k) (x % 256)) (2 * k + 1) (x / 256 % 256)) (2 * i) ≡ at shares i) k
          (λ i h. two_beside after (2 * k) (2 * i) (x % 256) (x / 256 % 256) (omega arith) ∙ w.share_is i h)
          (two_back after (2 * k) x (omega (arith, w.long)) small ∙ is));
    }
  where
    two_more : 2 * (k + 1) ≡ 2 * k + 2
    two_more = omega arith

    split : (l : List ℕ) → drop (2 * (k + 1)) l ≡ drop 2 (drop (2 * k) l)
    split l = ap (λ (j : ℕ). drop j l) two_more ∙ sym (drop-drop 2 (2 * k) l)

-- all shares of m constraints are written
module _ (m : ℕ) {k : ℕ} {shares before after : List ℕ} (w : SharesWritten k shares before after) (all : k ≡ 2 * m) (room : sheet_size m ≤ length before) where
  abbrev front : List ℕ
  front = take (sheet_size m) after

  front_long : length front ≡ sheet_size m
  front_long = length-take-le (sheet_size m) after (omega (arith, w.long))

  share_front : (i : ℕ) → i < 2 * m → two_at front (2 * i) ≡ at shares i
  unfolding two_at
  share_front i l =
      ap₂ (λ (a b : ℕ). a + 256 * b) (get_or-take (sheet_size m) after (2 * i) 0 (omega arith)) (get_or-take (sheet_size m) after (2 * i + 1) 0 (omega arith))
      ∙ w.share_is i (omega arith)

  sheet_front : (side : Side) (e : ℕ) → e < m → sheet_in front side e ≡ shares_in shares side e
  sheet_front first e l = ap (two_at front) (omega arith) ∙ share_front (2 * e) (omega arith)
  sheet_front second e l = ap (two_at front) (omega arith) ∙ share_front (2 * e + 1) (omega arith)

  pub all_written : SheetWritten m shares before after
  all_written =
      record {
        bytes = front;
        long = front_long;
        shares_are = sheet_front;
        after_is =
            sym
            (ap (λ (j : ℕ). front ++ drop j before) (front_long ∙ four)
            ∙ ap (λ (l : List ℕ). front ++ l) (sym w.rest ∙ ap (λ (j : ℕ). drop j after) (sym four))
            ∙ take-append-drop (sheet_size m) after);
      }
    where
      four : sheet_size m ≡ 2 * k
      four = omega arith

-- what the start and the end of writing need, under one name
pub ruleset share_laws = (none_written, all_written)
