-- All turns of a word at both ends leave each with the word made, and so does a word call at each.
--     turns                    the turns of a word that is under way at both ends
--     word_at_once             a run from a word's beginning at both ends: that word at once, and the turns from there on
--     host_made, client_made   what each end makes of what it hears is its word call
--     running_on               the ends run on behind it
-- Assumes nothing.
use Rattle.std.specs.Prelude.{◌+◌, ◌-◌, ◌^◌, ◌<◌, ◌≤◌, ◌&&◌, ◌≡◌}
use Rattle.laws.proofs.Common.{ℕ, zero, suc, Bool, true, false, not, refl, sym, ap, ap₂}
use Rattle.laws.proofs.Common.{subst₂, ◌∙◌, arith, not-true, if_true, if_false, and_left, and_right, and_first, and-false}
use Rattle.laws.proofs.Common.{like, so_lt}
use Rattle.word_order.specs.Bits.{bit_of}
use Rattle.module_rules.proofs.Types.{Settings, Engine, Pins, Module, Progress}
use Rattle.module_rules.specs.Changes.{with_sdo}
use Rattle.module_rules.specs.Settings.{width_of, framed, silent, own_clock, ssen_client}
use Rattle.module_rules.specs.Registers.{is_free}
use Rattle.module_rules.specs.Loading.{is_begun}
use Rattle.module_rules.specs.Bits.{progressed}
use Rattle.module_rules.specs.Finish.{finished}
use Rattle.module_rules.specs.Edge.{word_edges, shifted, advanced, clocked}
use Rattle.module_rules.proofs.Sizes.{width_least}
use Rattle.module_invariant.proofs.FinishWords.{delivered_elsewhere, finished_spares}
use Rattle.word_rules.specs.Word.{current, sdi_at, word_of}
use Rattle.word_rules.proofs.Closed.{word_made}
use Rattle.word_rules.proofs.Values.{received_small}
use Rattle.word_rules.proofs.WordMade.{at, told_on, told_end}
use Rattle.link_rules.specs.declared.Run.{Run}
use Rattle.link_rules.specs.Link.{one_more, host_turn}
use Rattle.word_begins.specs.Beginning.{between}
use Rattle.word_begins.proofs.Begins.{Begins, none_given, small, under, made}
use Rattle.link_words.specs.LinkWords.{Matched, Running, at_beginning, heard_of, further, word_then_turns}
use Rattle.link_words.proofs.Begins.{carried, first_levels, first_fits, heard_first, made_fresh}
use Rattle.link_words.proofs.Turn.{InStep, turned_both, step_on}

-- Edges used one by one.
one_further : (r : Run) → one_more r ≡ further 1 r
unfolding one_more further
one_further r = refl

more_further : (i : ℕ) (r : Run) → one_more (further (suc i) r) ≡ further (suc (suc i)) r
unfolding one_more further
more_further i r =
    let all : r.used + suc i + 1 ≡ r.used + suc (suc i) = omega arith in
    λ j. record { used = all j; host = r.host; client = r.client }

module _ (s u : Settings) (pair : Matched s u) (to_host to_client : ℕ) where
  -- An edge short of the last.
  goes_on : (t : Settings) (sdi : Bool) (p : Progress) (n : Engine) → p.edges + 1 < word_edges t → advanced t sdi p n ≡ shifted t sdi p n
  unfolding advanced
  goes_on t sdi p n h = sym (so_lt (p.edges + 1) (word_edges t) _ _ h refl)

  pub turns : (i left all : ℕ) (n m : Engine) (p q : Progress) → InStep s u pair to_host to_client n m p q → all ≡ left + suc i →
      p.edges + suc i ≡ word_edges s → p.received < 65536 → q.received < 65536 →
      host_turn all (at s n) (at u m) ≡ further (suc i) (host_turn left (at s (word_made s to_host p n)) (at u (word_made u to_client q m)))
  unfolding progressed
  turns zero left all n m p q steps is h small few =
      ap (λ (k : ℕ). host_turn k (at s n) (at u m)) (is ∙ omega arith)
      ∙ turned_both s u pair to_host to_client n m p q steps (omega arith) left
      ∙ ap one_more
      (ap₂ (λ (x y : Engine). host_turn left (at s x) (at u y)) (told_end s to_host n p (omega arith) small)
      (told_end u to_client m q (omega (arith, steps.edges, h, pair.width)) few))
      ∙ one_further _
  turns (suc i) left all n m p q steps is h small few =
      let a = sdi_at s p.edges to_host in
      let b = sdi_at u q.edges to_client in
      let host-short : p.edges + 1 < word_edges s = omega arith in
      let client-short : q.edges + 1 < word_edges u = omega (arith, steps.edges, h, pair.width) in
      ap (λ (k : ℕ). host_turn k (at s n) (at u m)) (is ∙ omega arith)
      ∙ turned_both s u pair to_host to_client n m p q steps (omega arith) (left + suc i)
      ∙ ap one_more
      (ap₂ (λ (x y : Engine). host_turn (left + suc i) (at s x) (at u y)) (goes_on s a p (clocked (not n.pins.sck) n) host-short)
      (goes_on u b q (clocked (not m.pins.sck) m) client-short)
      ∙ turns i left (left + suc i) (shifted s a p (clocked (not n.pins.sck) n)) (shifted u b q (clocked (not m.pins.sck) m)) (progressed s a p) (progressed u b q)
      (step_on s u pair to_host to_client n m p q steps (omega arith) a b host-short) refl (omega arith)
      (received_small s (p.edges + 1) a p.received small) (received_small u (q.edges + 1) b q.received few)
      ∙ ap (further (suc i))
      (ap₂ (λ (x y : Engine). host_turn left (at s x) (at u y)) (told_on s to_host n p host-short) (told_on u to_client m q client-short)))
      ∙ more_further i _

-- Both ends.
module _ (host client : Module) (run : Running host client) (start : at_beginning host client ≡ true) where
  abbrev s : Settings
  s = host.settings

  abbrev u : Settings
  u = client.settings

  abbrev n : Engine
  n = host.engine

  abbrev m : Engine
  m = client.engine

  pair : Matched s u
  pair = run.matched

  busy : is_free n.shift ≡ false
  unfolding at_beginning
  busy = not-true (is_free n.shift) (and_left (not (is_free n.shift)) _ start)

  both_rest : (between host && between client) ≡ true
  unfolding at_beginning
  both_rest = and_right (not (is_free n.shift)) _ start

  host-begins : Begins s n false
  host-begins =
      record {
        on = pair.host_on;
        plain = pair.unframed;
        loud = and-false (silent s) _ busy;
        chosen = and-false (ssen_client s) _ refl;
        heard = if_true (own_clock s) _ _ pair.own;
        rests = and_left (between host) _ both_rest;
      }

  client-begins : Begins u m false
  client-begins =
      record {
        on = pair.client_on;
        plain = pair.client_unframed;
        loud = and_first (silent u) _ (if_false (framed u) _ _ pair.client_unframed ∙ pair.is_client);
        chosen = and-false (ssen_client u) _ refl;
        heard = if_false (own_clock u) _ _ (and_first u.con1.msten _ pair.is_client) ∙ sym run.selected;
        rests = and_right (between host) _ both_rest;
      }

  idle-level : (x : Module) → between x ≡ true → x.engine.pins.sck ≡ x.settings.con1.ckp
  unfolding between
  idle-level x rests = like _ _ (and_right (not (is_begun x.engine.shift)) _ rests)

  in_step : InStep s u pair (heard_of client) (heard_of host) n m (current s n) (current u m)
  in_step =
      record {
        busy = busy;
        host_under = under s n false host-begins;
        client_under = under u m false client-begins;
        edges = none_given u m false client-begins ∙ sym (none_given s n false host-begins);
        clock =
            idle-level client client-begins.rests ∙ sym pair.ckp ∙ sym (idle-level host host-begins.rests);
        low = run.selected;
        host_hears = carried u m client-begins;
        client_hears = carried s n host-begins;
      }

  pub word_at_once : (left : ℕ) → word_edges s ≤ left → host_turn left host client ≡ word_then_turns left host client
  unfolding word_then_turns
  word_at_once left enough =
      let some = width_least s in
      let last : suc (word_edges s - 1) ≡ word_edges s = omega arith in
      turns s u pair (heard_of client) (heard_of host) (word_edges s - 1) (left - word_edges s) left n m (current s n) (current u m) in_step
      (omega arith) (omega (arith, none_given s n false host-begins)) (small s n false host-begins) (small u m false client-begins)
      ∙ ap₂ further last
      (ap₂ (host_turn (left - word_edges s)) (sym (made s n false host-begins (heard_of client))) (sym (made u m false client-begins (heard_of host))))

  -- What each end makes of what it hears.
  pub host_made : {word : ℕ} {after : Module} → word ≡ first_levels u (current u m).word m.pins.sdo →
      after ≡ at s (finished s (current s n).filler word (with_sdo (bit_of (current s n).word 0) n)) →
      after ≡ (word_of host false (heard_of client)).after
  host_made {word} heard made =
      let fits : word < 2 ^ width_of s = subst₂ (λ (x w : ℕ). x < 2 ^ w) (sym heard) (sym pair.width) (first_fits u (current u m).word m.pins.sdo) in
      made
      ∙ made_fresh s n host-begins word fits
      ∙ ap (λ (x : ℕ). (word_of host false x).after) (heard ∙ heard_first u m client-begins)

  pub client_made : {word : ℕ} {after : Module} → word ≡ first_levels s (current s n).word n.pins.sdo →
      after ≡ at u (finished u (current u m).filler word (with_sdo (bit_of (current u m).word 0) m)) →
      after ≡ (word_of client false (heard_of host)).after
  client_made {word} heard made =
      let fits : word < 2 ^ width_of u = subst₂ (λ (x w : ℕ). x < 2 ^ w) (sym heard) pair.width (first_fits s (current s n).word n.pins.sdo) in
      made
      ∙ made_fresh u m client-begins word fits
      ∙ ap (λ (x : ℕ). (word_of client false x).after) (heard ∙ heard_first s n host-begins)

  -- The ends run on behind it.
  ss-stays : (word : ℕ) → (word_made u word (current u m) m).pins.ss ≡ false
  unfolding word_made
  ss-stays word =
      (finished_spares u _ _ _).ss ∙ ap (λ (x : Pins). x.ss) (delivered_elsewhere u _ _).1 ∙ run.selected

  pub running_on : {after seen : Module} → after ≡ (word_of host false (heard_of client)).after → seen ≡ (word_of client false (heard_of host)).after →
      Running after seen
  running_on e f =
      rw (e, f, made s n false host-begins (heard_of client), made u m false client-begins (heard_of host))
      (record { matched = pair; selected = ss-stays (heard_of host) })
