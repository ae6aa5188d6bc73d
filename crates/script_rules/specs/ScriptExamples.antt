-- Document 01, "The script program": its worked example, and scripts for what the rules say besides, with document 02, Three
-- and Four, each with the output that the papers give it. proofs/ScriptExamplesHold.antt proves them together.
use Rattle.std.specs.Prelude.{ℕ, zero, suc, ◌-◌, Bool, true, false, ◌&&◌, List, [], ◌∷◌, ◌++◌, eqb, length, drop}
use Prim.Native.String.{String}
use Rattle.script_rules.specs.Script.{bytes, script_output}

-- A script and what it prints.
pub record Script : Type 0 where
  pub input : String
  pub output : String

abbrev pub same_bytes : List ℕ → List ℕ → Bool
same_bytes [] [] = true
same_bytes [] (y ∷ ys) = false
same_bytes (x ∷ xs) [] = false
same_bytes (x ∷ xs) (y ∷ ys) = eqb x y && same_bytes xs ys

abbrev pub all_print : List Script → Bool
all_print [] = true
all_print (s ∷ rest) = same_bytes (script_output (bytes s.input)) (bytes s.output) && all_print rest

abbrev pub worked : Script
worked =
    record {
      input = "W 1 0020\nW 0 8000\nR 3\nW 3 00A5\nR 0\nW 3 003C\nR 0\nT 1\nT 0\nW 1 0000\n";
      output = "1 OK\n2 OK\n3 E 6\n4 OK\n5 8000\n6 OK\n7 8002\n8 1 1 0\n9 0 1 0\n10 E 3\n";
    }

abbrev pub scripts : List Script
scripts =
    worked
    -- a last line needs no LF, nothing after a final LF is a line, and an input without bytes has no line
    ∷ record { input = "C\nR 0"; output = "1 OK\n2 0000\n" }
    ∷ record { input = "C\n"; output = "1 OK\n" }
    ∷ record { input = ""; output = "" }
    -- an empty line gives 9, and the script goes on
    ∷ record { input = "\n\nC"; output = "1 E 9\n2 E 9\n3 OK\n" }
    -- a line of more than 16 bytes is one line, and gives 9
    ∷ record { input = "C C C C C C C C\nC              \nC               C\nC"; output = "1 E 9\n2 E 9\n3 E 9\n4 OK\n" }
    ∷ record { input = "0123456789ABCDEFC\nC"; output = "1 E 9\n2 OK\n" }
    -- upper case only, single spaces, no tab, no CR, no space at either end
    ∷ record { input = "c\nw 1 0020\nW 1 00a5\nW 1 00A5\n"; output = "1 E 9\n2 E 9\n3 E 9\n4 OK\n" }
    ∷ record { input = "R 0 \n R 0\nR  0\nR\t0\nR 0\r\nR 0\n"; output = "1 E 9\n2 E 9\n3 E 9\n4 E 9\n5 E 9\n6 0000\n" }
    -- exactly so many digits, each of its kind
    ∷ record { input = "W 1 020\nW 1 00020\nW 1 00G0\nW 1 00:0\nW 1 00/0\nW 1 00@0\n"; output = "1 E 9\n2 E 9\n3 E 9\n4 E 9\n5 E 9\n6 E 9\n" }
    ∷ record { input = "R 01\nR\nR A\nR -1\nR :\nR /\n"; output = "1 E 9\n2 E 9\n3 E 9\n4 E 9\n5 E 9\n6 E 9\n" }
    ∷ record { input = "T 2\nT\nT 0 2\nT 0 \nT 0  1\nT 0 0 0\nP 0 0\nP 0 0 2\nP 0 0 0 0\nP 000\nCC\n"; output = "1 E 9\n2 E 9\n3 E 9\n4 E 9\n5 E 9\n6 E 9\n7 E 9\n8 E 9\n9 E 9\n10 E 9\n11 E 9\n" }
    -- a register above 3 can be read as a line
    ∷ record { input = "W 4 0000\nR 9\n"; output = "1 E 1\n2 E 1\n" }
    -- every hexadecimal digit, written and read back
    ∷ record { input = "W 1 1DDF\nR 1\nW 1 0248\nR 1\nW 2 E003\nR 2\nW 1 0ACE\nR 1\nW 1 1357\nR 1\nW 1 09BF\nR 1\nW 1 0862\nR 1\n"; output = "1 OK\n2 1DDF\n3 OK\n4 0248\n5 OK\n6 E003\n7 OK\n8 0ACE\n9 OK\n10 1357\n11 OK\n12 09BF\n13 OK\n14 0862\n" }
    -- the levels of a pin call in their order, an undriven SDO, the flag and the clear call
    ∷ record { input = "W 1 0080\nW 0 8000\nP 0 0 1\nW 3 00FF\nP 0 0 0\nP 1 0 0\nP 0 1 0\nP 0 1 1\n"; output = "1 OK\n2 OK\n3 Z 0\n4 OK\n5 0 0\n6 1 0\n7 1 0\n8 Z 0\n" }
    ∷ record { input = "W 1 0020\nW 0 8000\nT 0\nW 3 0001\nT 0\nT 0\nT 0\nT 0\nT 0\nT 0\nT 0\nT 0\nT 0\nT 0\nT 0\nT 0\nT 0\nT 1\nT 1\nT 1\nT 1\nC\nR 3\nP 0 0 0\n"; output = "1 OK\n2 OK\n3 N\n4 OK\n5 1 0 0\n6 0 0 0\n7 1 0 0\n8 0 0 0\n9 1 0 0\n10 0 0 0\n11 1 0 0\n12 0 0 0\n13 1 0 0\n14 0 0 0\n15 1 0 0\n16 0 0 0\n17 1 0 0\n18 0 0 0\n19 1 1 0\n20 0 1 1\n21 N\n22 OK\n23 0003\n24 E 7\n" }
    -- SDI of a pin call stands in the middle
    ∷ record { input = "W 0 8000\nP 1 0 0\nP 0 1 0\nP 1 0 0\nP 0 1 0\nP 1 0 0\nP 0 1 0\nP 1 0 0\nP 0 1 0\nP 1 0 0\nP 0 1 0\nP 1 0 0\nP 0 1 0\nP 1 0 0\nP 0 1 0\nP 1 0 0\nP 0 1 0\nR 3\n"; output = "1 OK\n2 0 0\n3 0 0\n4 0 0\n5 0 0\n6 0 0\n7 0 0\n8 0 0\n9 0 0\n10 0 0\n11 0 0\n12 0 0\n13 0 0\n14 0 0\n15 0 0\n16 0 0\n17 0 1\n18 00FF\n" }
    -- a T line may end with SS, which an unframed host does not look at
    ∷ record { input = "W 1 0020\nW 0 8000\nW 3 00A5\nT 1 1\nT 0 0\nT 1\n"; output = "1 OK\n2 OK\n3 OK\n4 1 1 0\n5 0 1 0\n6 1 0 0\n" }
    -- a frame host tells the SS level that it drives: at its ticks with FRMDLY 0, with FRMDLY 1 and with FRMPOL 0, and at pin calls
    ∷ record { input = "W 1 0020\nW 2 A000\nW 0 8000\nT 0\nT 0\nT 0\nW 3 00A5\nW 3 003C\nT 1\nT 1\nT 1\nT 1\nT 1\n"; output = "1 OK\n2 OK\n3 OK\n4 1 0 0 0\n5 0 0 0 0\n6 1 0 0 0\n7 OK\n8 OK\n9 0 0 0 0\n10 1 0 0 1\n11 0 0 0 1\n12 1 1 0 0\n13 0 1 0 0\n" }
    ∷ record { input = "W 1 0020\nW 2 A002\nW 0 8000\nT 0\nT 0\nT 0\nW 3 00A5\nW 3 003C\nT 1\nT 1\nT 1\nT 1\n"; output = "1 OK\n2 OK\n3 OK\n4 1 0 0 0\n5 0 0 0 0\n6 1 0 0 0\n7 OK\n8 OK\n9 0 0 0 0\n10 1 1 0 1\n11 0 1 0 1\n12 1 0 0 0\n" }
    ∷ record { input = "W 1 0020\nW 2 8000\nW 0 8000\nW 3 00FF\nT 1\nT 1\nT 1\nT 1\n"; output = "1 OK\n2 OK\n3 OK\n4 OK\n5 1 0 0 0\n6 0 0 0 0\n7 1 1 0 1\n8 0 1 0 1\n" }
    ∷ record { input = "W 1 0000\nW 2 A000\nW 0 8000\nP 1 0 0\nP 0 0 0\nW 3 00A5\nW 3 003C\nP 1 1 0\nP 0 1 0\nP 1 1 0\nP 0 1 0\n"; output = "1 OK\n2 OK\n3 OK\n4 0 0 0\n5 0 0 0\n6 OK\n7 OK\n8 0 0 1\n9 0 0 1\n10 1 0 0\n11 1 0 0\n" }
    -- a frame client drives no SS and tells none; a tick shows it the SS of the T line, and 0 if that is left out
    ∷ record { input = "W 1 0020\nW 2 E000\nW 0 8000\nW 3 00A5\nT 1 0\nT 1 0\nT 1 1\nT 1 1\nT 1 0\nT 1 0\n"; output = "1 OK\n2 OK\n3 OK\n4 OK\n5 1 0 0\n6 0 0 0\n7 1 0 0\n8 0 0 0\n9 1 1 0\n10 0 1 0\n" }
    ∷ record { input = "W 1 0020\nW 2 C000\nW 0 8000\nW 3 00A5\nT 1 1\nT 1 1\nT 1 1\nT 1\nT 1\n"; output = "1 OK\n2 OK\n3 OK\n4 OK\n5 1 0 0\n6 0 0 0\n7 1 0 0\n8 0 0 0\n9 1 1 0\n" }
    ∷ record { input = "W 1 1460\nW 2 C000\nW 0 8000\nW 3 8001\nP 1 0 1\nP 0 0 0\nP 1 0 0\nP 0 1 1\nP 1 1 1\n"; output = "1 OK\n2 OK\n3 OK\n4 OK\n5 0 0\n6 0 0\n7 0 0\n8 1 0\n9 1 0\n" }
    -- framed settings: 12 is never given, 13 and 14 stay, 15 is not given with FRMEN
    ∷ record { input = "W 1 003F\nW 2 8000\nW 0 8000\nW 1 0200\nW 0 8000\nW 1 0100\nW 0 8000\nW 0 0000\nW 2 0000\nW 0 8000\n"; output = "1 OK\n2 OK\n3 E 13\n4 OK\n5 E 14\n6 OK\n7 OK\n8 OK\n9 OK\n10 E 15\n" }
    ∷ []

-- Document 02, Four: long scripts, of parts that repeat, and what they print last.
pub record LongScript : Type 0 where
  pub input : List ℕ
  pub last : String

abbrev pub repeated : ℕ → String → List ℕ
repeated zero part = []
repeated (suc count) part = bytes part ++ repeated count part

abbrev pub ends_in : List ℕ → List ℕ → Bool
ends_in output last = same_bytes (drop (length output - length last) output) last

abbrev pub all_end : List LongScript → Bool
all_end [] = true
all_end (s ∷ rest) = ends_in (script_output s.input) (bytes s.last) && all_end rest

-- An enhanced host sends nine words and eight are held: their read gives 16, also after SPIROV is cleared.
abbrev pub overflowing : List ℕ
overflowing =
    bytes "W 1 0020\nW 2 0001\nW 0 8000\n"
    ++ (repeated 9 "W 3 0001\n" ++ (repeated 144 "T 1\n" ++ bytes "R 0\nR 3\nW 0 8000\nR 0\nR 3\n"))

abbrev pub long_scripts : List LongScript
long_scripts =
    record { input = overflowing; last = "156 0 1 0\n157 80C1\n158 E 16\n159 OK\n160 8081\n161 E 16\n" }
    -- a word that finishes then is dropped and sets SPIROV again; disabling takes the mark away
    ∷ record {
      input =
          overflowing
          ++ (bytes "W 3 0055\n" ++ (repeated 16 "T 1\n" ++ bytes "R 0\nR 3\nW 0 0000\nR 3\nW 0 8000\nR 3\nR 0\n"));
      last = "178 0 1 0\n179 80C1\n180 E 16\n181 OK\n182 E 2\n183 OK\n184 E 6\n185 80A0\n";
    }
    -- in standard operation the first word is read after an overflow
    ∷ record {
      input = bytes "W 1 0020\nW 0 8000\nW 3 0001\nW 3 0002\n" ++ (repeated 32 "T 1\n" ++ bytes "R 0\nR 3\nR 3\n");
      last = "36 0 0 1\n37 8041\n38 00FF\n39 E 6\n";
    }
    ∷ []

-- All of them.
abbrev pub script_examples : Bool
script_examples = all_print scripts && all_end long_scripts
