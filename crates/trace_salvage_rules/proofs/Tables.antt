-- Which files can be salvaged, by one record of what the rules read of the table of contents.
--     table_is, is_table          it is what the test asks
--     table_tabled, tabled_table  and what the page says
-- Assumes nothing.
use Rattle.std.specs.Prelude.{◌≤◌, ◌<◌, ◌≡◌, length}
use Rattle.laws.proofs.Common.{ℕ, true, List}
use Rattle.trace_rules.specs.Trace.{section_count, table_end, start_of, place_of}
use Rattle.trace_page.proofs.TraceContents.{Placed}
use Rattle.trace_salvage_rules.specs.Salvage.{salvageable}
use Rattle.trace_salvage_rules.specs.SalvageDemands.{Tabled}
use Rattle.trace_salvage_rules.proofs.SalvageTables as tables

pub record Table (f : List ℕ) : Type 0 where
  pub some : 1 ≤ section_count f
  pub most : section_count f ≤ 64
  pub table : table_end f ≤ length f
  pub starts : (k : ℕ) → k < section_count f → start_of f k ≡ place_of f k
  pub short : length f ≤ 65535
  pub end : place_of f (section_count f) ≤ 65535

module _ (f : List ℕ) where
  placed : Table f → Placed f
  placed t = record { size = t.short; some = t.some; most = t.most; table = t.table; starts = t.starts }

  pub table_is : salvageable f ≡ true → Table f
  table_is ok =
      let p = tables.table_is f ok in
      record {
        some = p.some;
        most = p.most;
        table = p.table;
        starts = p.starts;
        short = p.size;
        end = tables.table_end_lem f ok;
      }

  pub is_table : Table f → salvageable f ≡ true
  is_table t = tables.is_table f (placed t) t.end

  pub table_tabled : Table f → Tabled f
  table_tabled t = tables.table_tabled f (placed t) t.end

  pub tabled_table : Tabled f → Table f
  tabled_table t = table_is (tables.tabled_table f t)
