-- What a call on a module in memory comes to, and the edge that calls share.
use Rattle.std.specs.Prelude.{ℕ, ◌+◌, ◌<◌, Bool, true, false, not, ◌||◌, List, ◌≡◌}
use Rattle.std.specs.Bool.{beq}
use Rattle.module_types.specs.declared.Settings.{Settings}
use Rattle.module_types.specs.declared.Engine.{Engine}
use Rattle.module_types.specs.declared.Answer.{Answer}
use Rattle.module_types.specs.declared.Answer.TheVariants.{Refused, Done, Value, NoEdge, Edge}
use Rattle.module_types.specs.declared.Outcome.{Outcome}
use Rattle.module_rules.specs.Settings.{framed, cke_of}
use Rattle.module_rules.specs.Loading.{is_begun}
use Rattle.module_rules.specs.Edge.{word_edges, awaits_pulse, under_way, advanced_if_begun, pulsed, clocked}
use Rattle.module_memory.specs.Memory.{place_in, progress_at, settings_in, engine_in, module_in, went_on, Steps}

-- An answer with the module that memory holds.
abbrev pub outcome_in : Answer → List ℕ → Outcome
outcome_in a w = record { answer = a; after = module_in w }

-- The answers of calls that leave every number as it was: a refusal, and no edge.
abbrev pub untouching : Answer → Bool
untouching (Refused r) = true
untouching Done = false
untouching (Value v) = false
untouching NoEdge = true
untouching Edge = false

-- A call answers as its definition says, and memory then holds the definition's module.
pub record Answers (o : Outcome) (a : Answer) (before after : List ℕ) : Type 0 where
  pub outcome : outcome_in a after ≡ o
  pub untouched : untouching a ≡ true → after ≡ before

-- An edge to the level `sck` of a module that is not deselected: before its pulse is decided, and whole.
unfoldable pub edge_advanced : Settings → Bool → Bool → Engine → Engine
edge_advanced s sck sdi n = advanced_if_begun s sdi (under_way s sck n) (clocked sck n)

unfoldable pub edge_counted : Settings → Bool → Bool → Engine → Engine
edge_counted s sck sdi n = pulsed s sck (edge_advanced s sck sdi n)

-- Whether an edge to the level `sck` begins no word: it goes to the idle level, or a frame pulse is awaited.
abbrev pub begins_none : Settings → Bool → Engine → Bool
begins_none s sck n = beq sck s.con1.ckp || awaits_pulse s n

-- What an edge to the level `sck` with no word begun is handed: whether it begins none, and CKE as the edge rules see it.
pub record First (w : List ℕ) (sck none cke : Bool) : Type 0 where
  pub tested : none ≡ begins_none (settings_in w) sck (engine_in w)
  pub seen : cke ≡ cke_of (settings_in w)

-- An edge to the other level of its own clock.
unfoldable pub turned : Settings → Bool → Engine → Engine
turned s sdi n = edge_counted s (not n.pins.sck) sdi n

-- The next edge is one within a begun word, which it does not finish.
pub record Midword (w : List ℕ) : Type 0 where
  pub begun : is_begun (engine_in w).shift ≡ true
  pub short : (progress_at (place_in w)).edges + 1 < word_edges (settings_in w)

-- A word goes on: the settings, the words waiting and the word itself stay.
pub record GoesOn (before after : List ℕ) : Type 0 where
  pub settings : settings_in after ≡ settings_in before
  pub transmit : (engine_in after).transmit ≡ (engine_in before).transmit
  pub edges : ℕ
  pub received : ℕ
  pub shift : (engine_in after).shift ≡ went_on edges received (engine_in before).shift

-- The short way, which makes such edges alone: it tells whether it made a step, and if not, memory is as it was.
pub record Shortens (f : Settings → Engine → Engine) (made : Bool) (before after : List ℕ) : Type 0 where
  pub plain : made ≡ true → framed (settings_in before) ≡ false
  pub begun : made ≡ true → is_begun (engine_in before).shift ≡ true
  pub steps : made ≡ true → Steps f before after
  pub goes : made ≡ true → GoesOn before after
  pub left : made ≡ false → after ≡ before

-- A call that is made or left: it tells whether it was made, with this answer, and if not, memory is as it was.
pub record Made (o : Outcome) (a : Answer) (made : Bool) (before after : List ℕ) : Type 0 where
  pub taken : made ≡ true → Answers o a before after
  pub left : made ≡ false → after ≡ before

-- The same by the short way.
pub record Shortly (o : Outcome) (a : Answer) (made : Bool) (before after : List ℕ) : Type 0 where
  pub taken : made ≡ true → Answers o a before after
  pub goes : made ≡ true → GoesOn before after
  pub left : made ≡ false → after ≡ before
