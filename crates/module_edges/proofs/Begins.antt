-- The first edge of a word.
--     begins_sampled, begins_shown   with CKE 1 it samples SDI, and else it shows the word's top bit
--     goes_alone                     an edge at which no word is under way
--     may_begin                      what is under way at an edge that may begin a word
--     begins_word                    an edge that begins one: at its beginning, as only a begun word has edges
--     plain_first                    what it is handed in an unframed module, which awaits no pulse
--     turns, heard_sck               an edge to the other level; a select level that is heard leaves SCK
-- Assumes nothing.
use Rattle.std.specs.Prelude.{◌-◌, ◌&&◌, ◌||◌, ◌≡◌}
use Rattle.laws.proofs.Common.{ℕ, Bool, true, false, not, Bool·beq, List, refl, sym, ◌∙◌, ap, subst, arith, so, not_so, when◌then◌else◌}
use Rattle.laws.proofs.Common.{and_first, if_keeps, clash}
use Rattle.word_order.specs.Bits.{bit_of}
use Rattle.module_rules.proofs.Types.{Settings, Progress, Shift, Free, Loaded, Begun, Engine}
use Rattle.module_rules.specs.Changes.{with_shift, with_sck, with_sdo}
use Rattle.module_rules.specs.Settings.{width_of, framed, frame_client, silent, ssen_client, cke_of}
use Rattle.module_rules.specs.Bits.{shifted_in, received_after, shown_bit, sdo_after, progressed}
use Rattle.module_rules.specs.Edge.{fresh, begun, awaits_pulse, under_way, shifted, advanced, clocked}
use Rattle.module_rules.specs.Buffers.{empty}
use Rattle.module_rules.specs.Loading.{is_begun}
use Rattle.module_rules.specs.Select.{select_remembered}
use Rattle.module_memory.specs.Memory.{settings_in, engine_in, Steps}
use Rattle.module_memory.proofs.Taken.{alike}
use Rattle.module_answers.specs.Answered.{edge_advanced, edge_counted, turned, First}
use Rattle.module_answers.proofs.Edges.{active, begins, begins_free, begins_loaded, plain_cke}

module _ (s : Settings) (sdi : Bool) (n : Engine) {filler : Bool} {word : ℕ} where
  pub begins_sampled : {received : ℕ} → cke_of s ≡ true → received ≡ shifted_in 0 sdi →
      with_shift (Begun (record { filler = filler; word = word; edges = 1; received = received })) n ≡ shifted s sdi (fresh filler word) n
  unfolding shifted progressed received_after sdo_after
  begins_sampled {received} e r =
      let first = ap (λ (b : Bool). Bool·beq b true) e in
      let got : received ≡ received_after s 1 sdi 0 = so _ _ _ first r in
      let level : n.pins.sdo ≡ sdo_after s word 1 n.pins.sdo = so _ _ _ first refl in
      λ j. with_sdo (level j) (with_shift (Begun (record { filler = filler; word = word; edges = 1; received = got j })) n)

  pub begins_shown : {received : ℕ} {sdo : Bool} → cke_of s ≡ false → received ≡ 0 → sdo ≡ bit_of word (width_of s - 1) →
      with_sdo sdo (with_shift (Begun (record { filler = filler; word = word; edges = 1; received = received })) n) ≡ shifted s sdi (fresh filler word) n
  unfolding shifted progressed received_after sdo_after shown_bit
  begins_shown {received} {sdo} e r d =
      let first = ap (λ (b : Bool). Bool·beq b true) e in
      let got : received ≡ received_after s 1 sdi 0 = not_so _ _ _ first r in
      let level : sdo ≡ sdo_after s word 1 n.pins.sdo = not_so _ _ _ first (d ∙ ap (bit_of word) (omega arith)) in
      λ j. with_sdo (level j) (with_shift (Begun (record { filler = filler; word = word; edges = 1; received = got j })) n)

module _ (s : Settings) (sck sdi : Bool) (n : Engine) where
  pub goes_alone : (x : Shift) → under_way s sck n ≡ x → is_begun x ≡ false → clocked sck n ≡ edge_advanced s sck sdi n
  goes_alone Free e k = begins_free s sck sdi n e
  goes_alone (Loaded word) e k = begins_loaded s sck sdi n e
  goes_alone (Begun p) e k = clash true refl k

-- The level of SCK does not count for what begins.
begun_clocked : (s : Settings) (sck : Bool) (n : Engine) (x : Shift) → begun s (with_sck sck n) x ≡ begun s n x
unfolding begun
begun_clocked s sck n Free = refl
begun_clocked s sck n (Loaded word) = refl
begun_clocked s sck n (Begun p) = refl

pub may_begin : {sck : Bool} {x : Shift} {a b : List ℕ} → Steps (λ _. with_sck sck) a b →
    (Bool·beq sck (settings_in a).con1.ckp || awaits_pulse (settings_in a) (engine_in a)) ≡ false → x ≡ begun (settings_in b) (engine_in b) (engine_in b).shift →
    under_way (settings_in a) sck (engine_in a) ≡ x
may_begin {sck} {a = a} step may e =
    active (settings_in a) sck (engine_in a) refl may
    (sym (begun_clocked (settings_in a) sck (engine_in a) (engine_in a).shift)
    ∙ sym (e ∙ (λ j. begun (step.settings j) (step.engine j) (step.engine j).shift)))

-- A word that begins is at its beginning.
word_fresh : (filler : Bool) (word : ℕ) {p : Progress} → Begun (fresh filler word) ≡ Begun p → p ≡ fresh p.filler p.word
word_fresh filler word {p} e =
    let q : fresh filler word ≡ p = cc in subst (λ (x : Progress). x ≡ fresh x.filler x.word) q refl

begins_fresh : (s : Settings) (n : Engine) (x : Shift) {p : Progress} → is_begun x ≡ false → begun s n x ≡ Begun p → p ≡ fresh p.filler p.word
unfolding begun
begins_fresh s n Free {p} k =
    if_keeps (λ (x : Shift). x ≡ Begun p → p ≡ fresh p.filler p.word) (silent s) _ _ (λ _ e. clash true refl (sym (ap is_begun e)))
    (λ _. if_keeps (λ (x : Shift). x ≡ Begun p → p ≡ fresh p.filler p.word) (ssen_client s && not (empty n.transmit.count)) _ _ (λ _. word_fresh _ _) (λ _. word_fresh _ _))
begins_fresh s n (Loaded word) {p} k = word_fresh false word
begins_fresh s n (Begun p) k = clash true refl k

under_fresh : (s : Settings) (sck : Bool) (n : Engine) {p : Progress} → is_begun n.shift ≡ false → under_way s sck n ≡ Begun p → p ≡ fresh p.filler p.word
unfolding under_way
under_fresh s sck n {p} k =
    let idle : n.shift ≡ Begun p → p ≡ fresh p.filler p.word = λ e. clash true refl (sym (ap is_begun e) ∙ k) in
    if_keeps (λ (x : Shift). x ≡ Begun p → p ≡ fresh p.filler p.word) (Bool·beq sck s.con1.ckp) _ _ (λ _. idle)
    (λ _. if_keeps (λ (x : Shift). x ≡ Begun p → p ≡ fresh p.filler p.word) (awaits_pulse s n) _ _ (λ _. idle) (λ _. begins_fresh s n n.shift k))

pub begins_word : (s : Settings) (sck sdi : Bool) (n : Engine) {p : Progress} → is_begun n.shift ≡ false → under_way s sck n ≡ Begun p →
    advanced s sdi (fresh p.filler p.word) (clocked sck n) ≡ edge_advanced s sck sdi n
begins_word s sck sdi n {p} k e =
    ap (λ (q : Progress). advanced s sdi q (clocked sck n)) (sym (under_fresh s sck n k e)) ∙ begins s sck sdi n e

pub turns : (sdi : Bool) {sck : Bool} {a b : List ℕ} → sck ≡ (engine_in a).pins.sck → Steps (λ s. edge_counted s (not sck) sdi) a b → Steps (λ s. turned s sdi) a b
unfolding turned
turns sdi {a = a} e step =
    alike step (ap (λ (level : Bool). edge_counted (settings_in a) (not level) sdi (engine_in a)) e)

pub heard_sck : (s : Settings) (ss : Bool) (n : Engine) → (when frame_client s then select_remembered ss n else n).pins.sck ≡ n.pins.sck
unfolding select_remembered
heard_sck s ss n = if_keeps (λ (x : Engine). x.pins.sck ≡ n.pins.sck) (frame_client s) _ _ (λ _. refl) (λ _. refl)

or_none : (a b : Bool) → b ≡ false → a ≡ (a || b)
or_none true b e = refl
or_none false b e = sym e

pub plain_first : {w : List ℕ} {s : Settings} {sck : Bool} → s ≡ settings_in w → framed (settings_in w) ≡ false →
    First w sck (Bool·beq sck s.con1.ckp) s.con1.cke
unfolding awaits_pulse
plain_first {w} {s} {sck} e plain =
    record {
      tested = ap (λ (x : Settings). Bool·beq sck x.con1.ckp) e ∙ or_none _ _ (and_first _ _ (and_first _ _ plain));
      seen = ap (λ (x : Settings). x.con1.cke) e ∙ plain_cke (settings_in w) plain;
    }
