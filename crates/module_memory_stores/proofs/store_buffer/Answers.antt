-- The words take the place of sixteen cells, one after the other.
use Rattle.std.specs.Prelude.{◌+◌, ◌-◌, ◌≤◌, ◌≡◌}
use Rattle.std.proofs.lemmas.Slice.{put_mid-paste}
use lib.Seq.{paste, paste-zero, paste-suc}
use Rattle.laws.proofs.Common.{ℕ, zero, suc, List, sym, ap, ap₂, ◌∙◌, add-zero, arith, length, set, get_or}
use Rattle.module_memory_stores.proofs.store_buffer.Goals as goal

module _ (w : List ℕ) (a : ℕ) (s : List ℕ) where
  abbrev stored : ℕ → List ℕ
  stored zero = w
  stored (suc zero) = set w a (get_or s 0 0)
  stored (suc (suc j)) = set (stored (suc j)) (a + suc j) (get_or s (suc j) 0)

  pasted : (n : ℕ) → a + n ≤ length w → n ≤ length s → stored n ≡ paste w a s n
  pasted zero room some = paste-zero w a s
  pasted (suc zero) room some =
      ap₂ (λ (l : List ℕ) (i : ℕ). set l i (get_or s 0 0)) (paste-zero w a s) (sym (add-zero a))
      ∙ paste-suc w a s 0 0 (omega arith) (omega arith)
  pasted (suc (suc j)) room some =
      ap (λ (l : List ℕ). set l (a + suc j) (get_or s (suc j) 0)) (pasted (suc j) (omega arith) (omega arith))
      ∙ paste-suc w a s (suc j) 0 (omega arith) (omega arith)

pub returns : goal.returns
returns g c =
    let a = g.row.AT in
    ap (λ (l : List ℕ). set (set (set l (a + 16) c.args.write) (a + 17) c.args.read) (a + 18) c.args.count)
    (put_mid-paste a (a + 16 - a) c.args.w.now _ c.args.words.now 16 c.copy_from_slice.ensures.after (omega arith) (omega arith)
    ∙ sym (pasted c.args.w.now a c.args.words.now 16 (omega arith) (omega arith)))
