-- Which files can be salvaged.
--     table_is, table_end_lem, is_table   by what the rules read of the table of contents
--     table_tabled, tabled_table      and by the page
-- Assumes nothing.
use Rattle.std.specs.Prelude.{◌≤◌, ◌≡◌}
use Rattle.laws.proofs.Common.{ℕ, true, List, sym, ap, ◌∙◌, arith, leb-true, le-leb, and_left, and_right, and_both}
use Rattle.trace_rules.specs.Trace.{section_count, table_end, place_of, table_right}
use Rattle.trace_rules.specs.TraceDemands.{sections, end_before}
use Rattle.trace_page.proofs.TraceContents.{Placed, table_placed, placed_table}
use Rattle.trace_page.proofs.TracePlaces.{count_spelled, start_spelled, end_is, places}
use Rattle.trace_salvage_rules.specs.Salvage.{salvageable}
use Rattle.trace_salvage_rules.specs.SalvageDemands.{Tabled}

module _ (f : List ℕ) where
  pub table_is : salvageable f ≡ true → Placed f
  unfolding salvageable
  table_is ok = table_placed f (and_left (table_right f) _ ok)

  pub table_end_lem : salvageable f ≡ true → place_of f (section_count f) ≤ 65535
  unfolding salvageable
  table_end_lem ok = leb-true (place_of f (section_count f)) 65535 (and_right (table_right f) _ ok)

  pub is_table : Placed f → place_of f (section_count f) ≤ 65535 → salvageable f ≡ true
  unfolding salvageable
  is_table t end = and_both (table_right f) _ (placed_table f t) (le-leb (place_of f (section_count f)) 65535 end)

  pub table_tabled : Placed f → place_of f (section_count f) ≤ 65535 → Tabled f
  unfolding table_end
  table_tabled t end =
      record {
        some = omega (arith, t.some, count_spelled f);
        most = omega (arith, t.most, count_spelled f);
        table = omega (arith, t.table, count_spelled f);
        gapless = λ k h.
            sym (start_spelled f k) ∙ t.starts k (omega (arith, count_spelled f))
            ∙ end_is f k (λ j i. t.starts j (omega (arith, count_spelled f)));
        short = t.size;
        end = omega (arith, end, end_is f (section_count f) t.starts, ap (end_before f) (count_spelled f));
      }

  pub tabled_table : Tabled f → salvageable f ≡ true
  unfolding table_end
  tabled_table t =
      let place : (k : ℕ) → k ≤ sections f → place_of f k ≡ end_before f k = places f (sections f) t.gapless in
      is_table
      (record {
        size = t.short;
        some = omega (arith, t.some, count_spelled f);
        most = omega (arith, t.most, count_spelled f);
        table = omega (arith, t.table, count_spelled f);
        starts = λ k h.
            start_spelled f k ∙ t.gapless k (omega (arith, count_spelled f)) ∙ sym (place k (omega (arith, count_spelled f)));
      })
      (omega (arith, t.end, place (sections f) (omega arith), ap (place_of f) (count_spelled f)))
