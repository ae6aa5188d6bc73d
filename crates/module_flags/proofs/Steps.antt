-- The flags after each step of an enabled module, by what is seen of it.
--     Raises         the interrupt flag and SPIROV after a step, by its operations
--     taken_flags, written_flags   a BUF read and a BUF write
--     level_flags    levels that are seen
-- Assumes nothing.
use Rattle.std.specs.Prelude.{◌+◌, ◌*◌, ◌≤◌, ◌<◌, ◌||◌, ◌&&◌, ◌∷◌, ◌≡◌}
use Rattle.laws.proofs.Common.{arith, lt-ltb, le-ltb, not-true, length, ℕ, Bool, false, or-false}
use Rattle.laws.proofs.Common.{true, not, List, [], refl, sym, ap, ◌∙◌, ap₂, ltb, eqb, and-false, if_keeps}
use Rattle.laws.proofs.Common.{and_left, and_right}
use mir.Val.{bool_byte}
use Rattle.word_order.specs.Ledger.{Op, accepts, reads}
use Rattle.word_order.specs.Port.{counted_in, accepts_op, reads_op, finishes_in, losses_in}
use Rattle.module_rules.proofs.Types.{Settings, Engine, Module, Receive, Progress}
use Rattle.module_rules.specs.Buffers.{unread, taken, empty}
use Rattle.module_rules.specs.Words.{unread_in, waiting_in, owed_words}
use Rattle.module_rules.specs.Watch.{terms}
use Rattle.module_rules.specs.Flags.{raised, Seen}
use Rattle.module_rules.specs.Calls.{word_taken, word_written}
use Rattle.module_rules.specs.Interrupts.{noted}
use Rattle.module_rules.specs.Settings.{depth_of, width_of, ssen_client}
use Rattle.module_rules.specs.Loading.{rested, sdo_at, can_load}
use Rattle.module_rules.specs.Bits.{received_after}
use Rattle.module_rules.specs.Finish.{finished, is_lost, sent_dropped, delivered}
use Rattle.module_rules.proofs.BuffersOrder.{waiting_length, unread_length}
use Rattle.module_invariant.proofs.Parts.{BuffersHold, EdgeHolds, queued}
use Rattle.module_invariant.proofs.FinishWords.{loaded_spares, finished_spares, finished_order}
use Rattle.module_invariant.proofs.Losses.{delivered_count, delivered_spirov}
use Rattle.module_invariant.proofs.Edge.{last_fits, last_idle}
use Rattle.module_order.proofs.Ports.{port_of}
use Rattle.module_flags.proofs.Happened.{happened, quiet_raises}
use Rattle.module_flags.proofs.Raised.{raised_as, event, taken_raises_lem, finish_raises, write_raises}
use Rattle.module_flags.proofs.Finish.{written_count, written_flag, finished_count, finished_flag, leaves}

abbrev pub module_of : Settings → Engine → Module
module_of s n = record { settings = s; engine = n }

-- The flags after a step, by its operations.
pub record Raises (s : Settings) (n : Engine) (os : List Op) (x : Engine) : Type 0 where
  pub flag : x.interrupt ≡ (n.interrupt || raised s (happened (module_of s n) os (module_of s x)))
  pub spirov : x.spirov ≡ (n.spirov || ltb 0 (losses_in (terms s) os (port_of s n)))

-- A flag that nothing sets.
not_set : (b c : Bool) → c ≡ false → b ≡ (b || c)
not_set b c e = sym (ap (λ (x : Bool). b || x) e ∙ or-false b)

-- No word passes, and the buffers and flags stay.
pub record Stays (s : Settings) (n : Engine) (x : Engine) : Type 0 where
  pub unread : unread_in (module_of s x) ≡ unread_in (module_of s n)
  pub waiting : waiting_in (module_of s x) ≡ waiting_in (module_of s n)
  pub interrupt : x.interrupt ≡ n.interrupt
  pub spirov : x.spirov ≡ n.spirov

-- Operations that pass no word in or out of the buffers from the processor's side, and finish none.
pub record Idle (s : Settings) (n : Engine) (os : List Op) : Type 0 where
  pub accepts : counted_in accepts_op (terms s) os (port_of s n) ≡ 0
  pub reads : counted_in reads_op (terms s) os (port_of s n) ≡ 0
  pub finishes : finishes_in (terms s) os (port_of s n) ≡ 0
  pub losses : losses_in (terms s) os (port_of s n) ≡ 0

pub stays_raises : (s : Settings) (n : Engine) (os : List Op) (x : Engine) → Idle s n os → Stays s n x → Raises s n os x
stays_raises s n os x i k =
    record {
      flag =
          k.interrupt
          ∙ not_set n.interrupt _
          (quiet_raises (module_of s n) os (module_of s x) i.accepts i.reads i.finishes k.unread k.waiting);
      spirov = k.spirov ∙ not_set n.spirov _ (ap (ltb 0) i.losses);
    }

-- One fewer, or as many.
fewer : (a b : ℕ) (l : Bool) → a + bool_byte l ≡ b → ltb a b ≡ l
fewer a b true e = lt-ltb a b (omega arith)
fewer a b false e = le-ltb a b (omega arith)

-- The words of an engine, counted.
waits : (s : Settings) (n : Engine) → length (waiting_in (module_of s n)) ≡ n.transmit.count
waits s n = waiting_length (depth_of s) n.transmit

unreads : (s : Settings) (n : Engine) → length (unread_in (module_of s n)) ≡ n.receive.count
unreads s n = unread_length (depth_of s) n.receive

-- Nothing has left where as many wait.
none_left' : (s : Settings) (a b : ℕ) → b ≤ a → (s.spien && ltb a (b + 0)) ≡ false
none_left' s a b h = and-false s.spien _ (le-ltb a (b + 0) (omega arith))

-- A BUF read.
taken_fewer : (depth : ℕ) (r : Receive) → (taken depth r).count ≤ r.count
unfolding taken
taken_fewer depth r =
    if_keeps (λ (q : Receive). q.count ≤ r.count) (empty r.count) _ _ (λ e. omega arith) (λ e. omega arith)

pub taken_flags : (s : Settings) (n : Engine) (word : ℕ) → Raises s n (reads word ∷ []) (word_taken s n)
unfolding word_taken noted
taken_flags s n word =
    let v : Seen = happened (module_of s n) (reads word ∷ []) (module_of s (word_taken s n)) in
    let u : ℕ = (taken (depth_of s) n.receive).count in
    let read : raised s v ≡ raised s (event true false false false false u n.transmit.count v.none) =
    raised_as s v refl
    (ap₂ ltb (unreads s n) (unread_length (depth_of s) (taken (depth_of s) n.receive))
    ∙ le-ltb n.receive.count u (taken_fewer (depth_of s) n.receive))
    (none_left' s (length (waiting_in (module_of s n))) (length (waiting_in (module_of s n))) (omega arith))
    refl
    refl
    (unread_length (depth_of s) (taken (depth_of s) n.receive))
    (waits s n)
    refl in
    record {
      flag = ap (λ (b : Bool). n.interrupt || b) (taken_raises_lem s u n.transmit.count v.none ∙ sym read);
      spirov = sym (or-false n.spirov);
    }

-- A BUF write.
written_spares : (s : Settings) (word : ℕ) (n : Engine) →
    ((word_written s word n).receive ≡ n.receive) × ((word_written s word n).spirov ≡ n.spirov)
unfolding word_written rested sdo_at noted
written_spares s word n =
    let spared = loaded_spares s (queued s word n) in
    (spared.receive, spared.spirov)

pub written_flags : (s : Settings) → s.spien ≡ true → (n : Engine) (word : ℕ) → n.transmit.count < depth_of s →
    Raises s n (accepts word ∷ []) (word_written s word n)
written_flags s on n word room =
    let after : Engine = word_written s word n in
    let v : Seen = happened (module_of s n) (accepts word ∷ []) (module_of s after) in
    let l : Bool = can_load s (queued s word n) in
    let w : ℕ = after.transmit.count in
    let c = written_count s word n room in
    let seen : raised s v ≡ raised s (event false false l false true v.unread w v.none) =
    raised_as s v refl
    (ap (λ (r : Receive). ltb (length (unread_in (module_of s n))) (length (unread (depth_of s) r))) (written_spares s word n).0
    ∙ le-ltb (length (unread_in (module_of s n))) (length (unread_in (module_of s n))) (omega arith))
    (ap₂ (λ (a b : ℕ). s.spien && ltb a (b + 1)) (waits s after) (waits s n)
    ∙ ap (λ (b : Bool). b && ltb w (n.transmit.count + 1)) on
    ∙ fewer w (n.transmit.count + 1) l c)
    refl
    refl
    refl
    (waits s after)
    refl in
    record {
      flag = written_flag s word n ∙ ap (λ (b : Bool). n.interrupt || b) (write_raises s l v.unread w v.none ∙ sym seen);
      spirov = (written_spares s word n).1 ∙ sym (or-false n.spirov);
    }

-- A finish, with a list of operations that finishes one word.
module _ (s : Settings) (on : s.spien ≡ true) (n : Engine) (b : BuffersHold s n) (sdi : Bool) (p : Progress) (h : EdgeHolds s n p)
    (last : p.edges + 1 ≡ 2 * width_of s) where
  abbrev word : ℕ
  word = received_after s (p.edges + 1) sdi p.received

  abbrev after : Engine
  after = finished s p.filler word n

  some : (ssen_client s && not p.filler) ≡ true → 1 ≤ n.transmit.count
  some e = (h.sent.first (and_left (ssen_client s) _ e) (not-true p.filler (and_right (ssen_client s) _ e))).0

  -- The words unread and those owed after it.
  finish-unread : after.receive.count ≡ n.receive.count + bool_byte (not (is_lost s n))
  finish-unread = ap (λ (r : Receive). r.count) (finished_spares s p.filler word n).receive ∙ delivered_count s word n

  finish-owed : length (owed_words (module_of s after)) ≡ (sent_dropped s p.filler (delivered s word n)).transmit.count
  finish-owed =
      sym
      (ap length
      (finished_order s p.filler word n (last_fits s sdi p n h last)
      (record { buffers = b; idle = λ own. last_idle s sdi p n h last })))
      ∙ waiting_length (depth_of s) (sent_dropped s p.filler (delivered s word n)).transmit

  pub finish_flags : (os : List Op) → counted_in accepts_op (terms s) os (port_of s n) ≡ 0 →
      counted_in reads_op (terms s) os (port_of s n) ≡ 0 → finishes_in (terms s) os (port_of s n) ≡ 1 →
      losses_in (terms s) os (port_of s n) ≡ bool_byte (is_lost s n) → Raises s n os after
  finish_flags os a r f k =
      let v : Seen = happened (module_of s n) os (module_of s after) in
      let u : ℕ = (delivered s word n).receive.count in
      let w : ℕ = after.transmit.count in
      let spent : ℕ = (sent_dropped s p.filler (delivered s word n)).transmit.count in
      let l : Bool = leaves s p.filler word n some in
      let unread-after : length (unread_in (module_of s after)) ≡ n.receive.count + bool_byte (not (is_lost s n)) =
      unreads s after ∙ finish-unread in
      let fewer-wait : (accepted : ℕ) → Bool =
      λ accepted. ltb (length (waiting_in (module_of s after))) (length (waiting_in (module_of s n)) + bool_byte (ltb 0 accepted)) in
      let seen : raised s v ≡ raised s (event false (not (is_lost s n)) l true false u w (eqb spent 0)) =
      raised_as s v (ap (ltb 0) r)
      (ap₂ ltb (unreads s n) unread-after ∙ fewer n.receive.count _ (not (is_lost s n)) refl)
      (ap₂ (λ (z : Bool) (accepted : ℕ). z && fewer-wait accepted) on a
      ∙ ap₂ (λ (y z : ℕ). ltb y (z + 0)) (waits s after) (waits s n)
      ∙ fewer w (n.transmit.count + 0) l (omega (arith, finished_count s p.filler word n some)))
      (ap (ltb 0) f)
      (ap (ltb 0) a)
      (unread-after ∙ sym (delivered_count s word n))
      (waits s after)
      (ap (λ (z : ℕ). eqb z 0) finish-owed) in
      record {
        flag =
            finished_flag s p.filler word n some
            ∙ ap (λ (z : Bool). n.interrupt || z)
            (finish_raises s (not (is_lost s n)) l u w spent (eqb spent 0) refl ∙ sym seen);
        spirov =
            (finished_spares s p.filler word n).spirov
            ∙ delivered_spirov s word n
            ∙ ap (λ (z : Bool). n.spirov || z) (sym (ap (ltb 0) k ∙ one_bit_lem (is_lost s n)));
      }
    where
      one_bit_lem : (z : Bool) → ltb 0 (bool_byte z) ≡ z
      one_bit_lem true = refl
      one_bit_lem false = refl
