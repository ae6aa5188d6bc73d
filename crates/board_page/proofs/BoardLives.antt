-- Each module of the board is what its own calls made of it.
--     each_lives   after any steps from power-up of all modules
-- Assumes nothing.
use Rattle.std.specs.Prelude.{◌<◌, ◌≤◌, ◌&&◌, ◌∷◌, ◌≡◌}
use Rattle.laws.proofs.Common.{ℕ, false, List, [], refl, sym, ap, ◌∙◌, eqb-true, eqb, length}
use Rattle.laws.proofs.Common.{replicate, get_or-replicate, when◌then◌else◌, if_keeps, if_both, by_test, and_left, and_right}
use Rattle.laws.proofs.Common.{and_rest}
use Rattle.module_rules.proofs.Types.{Module, Outcome, Call, ClockStep, Eight}
use Rattle.module_rules.specs.RefusalTable.{first_number}
use Rattle.module_rules.specs.Calls.{powered_at, powered_up, refuse, power_up_of, after_calls}
use Rattle.module_rules.specs.Lives.{power_up, begins, life}
use Rattle.module_rules.proofs.LivesReach.{watched_reaches, reaches_append}
use Rattle.link_rules.specs.Link.{linked_of}
use Rattle.link_rules.specs.LinkDemands.{run_host_calls, run_client_calls, refusal_of}
use Rattle.link_page.proofs.LinkRuns.{link_calls_lem}
use Rattle.link_page.proofs.LinkDemandsHold.{linked_runs_lem, made}
use Rattle.word_rules.specs.Word.{steps_of}
use Rattle.word_rules.proofs.WordHolds.{steps_leave}
use Rattle.board_rules.specs.declared.BoardCall.{BoardCall}
use Rattle.board_rules.specs.declared.BoardCall.TheVariants.{PowerUp, PowerUpAt, Make, Report, Look, StepAndLook, MakeWord}
use Rattle.board_rules.specs.Board.{board_of, pair_of, BoardStep, one, two, board_stepped, board_after}
use Rattle.board_rules.specs.BoardDemands.{board_rows, pair_rows, at, Own, fresh, more, own_after_call, own_after_run, own_after, own_calls}
use Rattle.board_page.proofs.BoardCalls.{some, or_both, call_refused_exactly, call_refused_unchanged, pair_refused_exactly_lem, pair_refused_unchanged_lem, alone, joined}

-- What a module's own calls reach.
abbrev reached : Own → Module
reached own = after_calls (powered_at own.depth) own.calls

-- A call of one module, for the module that stands at `k`.
module _ (ms : List Module) (k : ℕ) (own : Own) (here : at ms k ≡ reached own) where
  -- Power-up with a depth, or with none that there is.
  powered_reaches : (words : ℕ) → (power_up_of (at ms k) words).after ≡ reached (own_after_call (at ms k) own (PowerUpAt words))
  unfolding power_up_of refuse
  powered_reaches words =
      let P : Outcome → Own → Type 0 = λ (o : Outcome) (x : Own). o.after ≡ reached x in
      if_both P (eqb words 4) _ _ _ _ _ refl (λ e. refl)
      (λ e. if_both P (eqb words 8) _ _ _ _ _ refl (λ e. refl) (λ e. if_both P (eqb words 16) _ _ _ _ _ refl (λ e. refl) (λ e. here)))

  -- What further calls reach from here.
  reach : (cs : List Call) → after_calls (at ms k) cs ≡ reached (more own cs)
  reach cs = ap (λ (m : Module). after_calls m cs) here ∙ sym (reaches_append own.calls cs (powered_at own.depth))

  -- It is named, and the call is handed on.
  named : (c : BoardCall) → first_number (board_rows (length ms) k) ≡ 0 → at (board_of ms k c).after k ≡ reached (own_after_call (at ms k) own c)
  named PowerUp e = (alone ms k e).powered.1
  named (PowerUpAt words) e = ((alone ms k e).powered_at words).1 ∙ powered_reaches words
  named (Make c) e = ((alone ms k e).made c).1 ∙ reach (c ∷ [])
  named (Report f) e = ((alone ms k e).reported f).1 ∙ here
  named Look e = (alone ms k e).shown.1 ∙ here
  named (StepAndLook sck sdi ss) e = ((alone ms k e).stepped sck sdi ss).1 ∙ reach (ClockStep sck sdi ss ∷ [])
  named (MakeWord ss word) e = ((alone ms k e).worded ss word).1 ∙ steps_leave (at ms k) ss word ∙ reach (steps_of (at ms k) ss word)

  -- It is not named, or the call is refused.
  not_named : (n : ℕ) (c : BoardCall) → (eqb (first_number (board_rows (length ms) n)) 0 && eqb n k) ≡ false → at (board_of ms n c).after k ≡ at ms k
  not_named n c e =
      by_test (eqb (first_number (board_rows (length ms) n)) 0)
      (λ on. ((alone ms n (eqb-true _ 0 on)).others c).stay k (and_rest _ _ e on))
      (λ off. ap (λ (l : List Module). at l k) (call_refused_unchanged ms n c (some _ (call_refused_exactly ms n c) off)))

  call-lives : (n : ℕ) (c : BoardCall) → at (board_of ms n c).after k ≡ reached (own_after k ms own (one n c))
  call-lives n c =
      if_keeps (λ (o : Own). at (board_of ms n c).after k ≡ reached o) (eqb (first_number (board_rows (length ms) n)) 0 && eqb n k) _ _
      (λ on.
      let same = eqb-true n k (and_right (eqb (first_number (board_rows (length ms) n)) 0) _ on) in
      let right = eqb-true _ 0 (and_left (eqb (first_number (board_rows (length ms) n)) 0) _ on) in
      ap (λ (j : ℕ). at (board_of ms j c).after k) same ∙ named c (ap (λ (j : ℕ). first_number (board_rows (length ms) j)) (sym same) ∙ right))
      (λ off. not_named n c off ∙ here)

-- A linked run, for the module that stands at `k`.
module _ (ms : List Module) (k : ℕ) (own : Own) (here : at ms k ≡ reached own) (a b limit : ℕ) where
  ran_here : {i : ℕ} → i ≡ k → (list : List Call) → after_calls (at ms i) list ≡ reached (more own list)
  ran_here same list = rw same (reach ms k own here list)

  -- What stands at `k` after a run that is handed on: an end of it, or what stood there.
  run_at : first_number (pair_rows (length ms) a b) ≡ 0 →
      let l = linked_of (at ms a) (at ms b) limit in
      at (pair_of ms a b limit).after k ≡ (when eqb a k then l.host else when eqb b k then l.client else at ms k)
  run_at e =
      let after = (pair_of ms a b limit).after in
      let does = joined ms a b limit e in
      if_keeps (λ (m : Module). at after k ≡ m) (eqb a k) _ _
      (λ host. ap (at after) (sym (eqb-true a k host)) ∙ does.host)
      (λ not-host.
      if_keeps (λ (m : Module). at after k ≡ m) (eqb b k) _ _
      (λ client. ap (at after) (sym (eqb-true b k client)) ∙ does.client)
      (λ not-client. does.others.stay k (or_both (eqb a k) (eqb b k) not-host not-client)))

  run-made : first_number (pair_rows (length ms) a b) ≡ 0 → refusal_of (at ms a) (at ms b) limit ≡ 0 →
      at (pair_of ms a b limit).after k ≡ reached (own_after_run k ms own a b limit)
  run-made e ran =
      let ends = link_calls_lem (at ms a) (at ms b) limit _ (made (at ms a) (at ms b) limit ran) in
      let P : Module → Own → Type 0 = λ (m : Module) (o : Own). m ≡ reached o in
      run_at e
      ∙ if_both P (eqb a k) _ _ _ _ _ refl (λ host. ends.0 ∙ ran_here (eqb-true a k host) (run_host_calls (at ms a) (at ms b) limit))
      (λ _. if_both P (eqb b k) _ _ _ _ _ refl
      (λ client. ends.1 ∙ ran_here (eqb-true b k client) (run_client_calls (at ms a) (at ms b) limit))
      (λ _. here))

  -- A refused one leaves both ends as they were.
  run-refused : first_number (pair_rows (length ms) a b) ≡ 0 → 1 ≤ refusal_of (at ms a) (at ms b) limit → at (pair_of ms a b limit).after k ≡ at ms k
  run-refused e some =
      let ends = linked_runs_lem.refused_unchanged (at ms a) (at ms b) limit some in
      let P : Module → Type 0 = λ (m : Module). m ≡ at ms k in
      run_at e
      ∙ if_keeps P (eqb a k) _ _ (λ host. ends.0 ∙ ap (at ms) (eqb-true a k host))
      (λ _. if_keeps P (eqb b k) _ _ (λ client. ends.1 ∙ ap (at ms) (eqb-true b k client)) (λ _. refl))

  not-run : (eqb (first_number (pair_rows (length ms) a b)) 0 && eqb (refusal_of (at ms a) (at ms b) limit) 0) ≡ false →
      at (pair_of ms a b limit).after k ≡ at ms k
  not-run e =
      by_test (eqb (first_number (pair_rows (length ms) a b)) 0)
      (λ on. run-refused (eqb-true _ 0 on) (some _ refl (and_rest _ _ e on)))
      (λ off. ap (λ (l : List Module). at l k) (pair_refused_unchanged_lem ms a b limit (some _ (pair_refused_exactly_lem ms a b limit) off)))

  run-lives : at (pair_of ms a b limit).after k ≡ reached (own_after k ms own (two a b limit))
  run-lives =
      if_keeps (λ (o : Own). at (pair_of ms a b limit).after k ≡ reached o)
      (eqb (first_number (pair_rows (length ms) a b)) 0 && eqb (refusal_of (at ms a) (at ms b) limit) 0) _ _
      (λ on. run-made (eqb-true _ 0 (and_left (eqb (first_number (pair_rows (length ms) a b)) 0) _ on)) (eqb-true _ 0 (and_right (eqb (first_number (pair_rows (length ms) a b)) 0) _ on)))
      (λ off. not-run off ∙ here)

-- Any steps.
steps_live : (k : ℕ) (ss : List BoardStep) (ms : List Module) (own : Own) → at ms k ≡ reached own →
    at (board_after ms ss) k ≡ reached (own_calls k ms own ss)
unfolding board_after board_stepped
steps_live k [] ms own here = here
steps_live k (one n c ∷ ss) ms own here = steps_live k ss _ _ (call-lives ms k own here n c)
steps_live k (two a b limit ∷ ss) ms own here = steps_live k ss _ _ (run-lives ms k own here a b limit)

pub each_lives : (size : ℕ) (steps : List BoardStep) (k : ℕ) → k < size →
    let own : Own = own_calls k (replicate size powered_up) (fresh Eight) steps in
    at (board_after (replicate size powered_up) steps) k ≡ (life (power_up own.depth) own.calls).now
each_lives size steps k h =
    let own : Own = own_calls k (replicate size powered_up) (fresh Eight) steps in
    steps_live k steps (replicate size powered_up) (fresh Eight) (get_or-replicate size k powered_up powered_up h)
    ∙ sym (watched_reaches own.calls (begins (power_up own.depth)))
