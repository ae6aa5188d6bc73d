-- A word at a time: the clock steps (document 02, Eleven) that the word under way, or the next one, still takes, as one call. It brings no
-- rule of its own: it is the list of those steps.
use Rattle.std.specs.Prelude.{ℕ, zero, suc, ◌+◌, ◌*◌, ◌-◌, ◌/◌, Bool, false, not, ◌&&◌, ◌||◌, List, [], ◌∷◌, ◌++◌, ltb}
use Rattle.std.specs.Bool.{beq}
use mir.Val.{bool_byte}
use Rattle.laws.specs.Choice.{when◌then◌else◌}
use Rattle.word_order.specs.Bits.{bit_of}
use Rattle.module_types.specs.declared.Settings.{Settings}
use Rattle.module_types.specs.declared.Engine.{Engine}
use Rattle.module_types.specs.declared.Module.{Module}
use Rattle.module_types.specs.declared.Outcome.{Outcome}
use Rattle.module_types.specs.declared.Progress.{Progress}
use Rattle.module_types.specs.declared.Shift.{Shift}
use Rattle.module_types.specs.declared.Shift.TheVariants.{Free, Loaded, Begun}
use Rattle.module_types.specs.declared.Answer.TheVariants.{Done}
use Rattle.module_types.specs.declared.Call.{Call}
use Rattle.module_types.specs.declared.Call.TheVariants.{ClockStep}
use Rattle.module_rules.specs.Settings.{width_of, framed, silent, cke_of, unframed_host}
use Rattle.module_rules.specs.Registers.{is_free}
use Rattle.module_rules.specs.Bits.{samples}
use Rattle.module_rules.specs.Loading.{is_begun}
use Rattle.module_rules.specs.Select.{deselected}
use Rattle.module_rules.specs.Edge.{word_edges, fresh, begun}
use Rattle.module_rules.specs.Calls.{perform_of, after_calls}
use Rattle.word_rules.specs.declared.Worded.{Worded}

-- The word that the next edges belong to: the one begun, else the one that would begin; where there is none its numbers do not count.
abbrev pub in_progress : Shift → Progress
in_progress Free = fresh false 0
in_progress (Loaded word) = fresh false word
in_progress (Begun p) = p

unfoldable pub current : Settings → Engine → Progress
current s n = in_progress (begun s n n.shift)

-- Nothing is to be clocked: this select level deselects the module, or it is silent and has no word.
unfoldable pub resting : Settings → Bool → Engine → Bool
resting s ss n = deselected s ss || (silent s && is_free n.shift)

-- A word whose edges are made at once: of an enabled unframed module that does not rest. No call leads to a word past its last edge.
unfoldable pub has_word : Module → Bool → Bool
has_word m ss =
    (m.settings.spien && not (framed m.settings))
    && (not (resting m.settings ss m.engine) && ltb (current m.settings m.engine).edges (word_edges m.settings))

-- Where SCK stands at the active level with nothing begun, an edge to the idle level comes first.
unfoldable pub idle_first : Settings → Engine → Bool
idle_first s n = not (is_begun n.shift) && not (beq n.pins.sck s.con1.ckp)

-- The bits of a word that k edges have sampled: with CKE 1 the odd edges do, else the even ones.
unfoldable pub bits_sampled : Bool → ℕ → ℕ
bits_sampled cke k = when cke then (k + 1) / 2 else k / 2

-- The bits of a word that are not sampled after k edges, and the level that SDI has at the next one: of the caller's word the low bits,
-- highest first.
unfoldable pub bits_left : Settings → ℕ → ℕ
bits_left s k = width_of s - bits_sampled (cke_of s) k

unfoldable pub sdi_at : Settings → ℕ → ℕ → Bool
sdi_at s k word = bit_of word (bits_left s k - 1)

-- So many edges after k, each to the other level of SCK.
abbrev pub edges_from : Settings → Bool → Bool → ℕ → ℕ → ℕ → List Call
edges_from s ss sck k zero word = []
edges_from s ss sck k (suc i) word = ClockStep (not sck) (sdi_at s k word) ss ∷ edges_from s ss (not sck) (k + 1) i word

-- The levels of SDO at those of them that sample, behind `levels`: each as it stands before the edge.
unfoldable pub level_on : Settings → ℕ → Bool → ℕ → ℕ
level_on s k sdo levels = when samples (cke_of s) (k + 1) then levels * 2 + bool_byte sdo else levels

abbrev pub levels_by : Settings → Bool → Bool → ℕ → ℕ → ℕ → ℕ → Module → ℕ
levels_by s ss sck k zero word levels m = levels
levels_by s ss sck k (suc i) word levels m =
    levels_by s ss (not sck) (k + 1) i word (level_on s k m.engine.pins.sdo levels)
    (perform_of m (ClockStep (not sck) (sdi_at s k word) ss)).after

-- The edge to the idle level.
abbrev pub idled : Module → Bool → ℕ → List Call
idled m ss word =
    when idle_first m.settings m.engine then ClockStep (not m.engine.pins.sck) (sdi_at m.settings 0 word) ss ∷ [] else []

-- The edges that the word still takes, and all of them.
abbrev pub edges_left : Module → ℕ
edges_left m = word_edges m.settings - (current m.settings m.engine).edges

abbrev pub edges_of : Module → Bool → ℕ → List Call
edges_of m ss word =
    edges_from m.settings ss m.engine.pins.sck (current m.settings m.engine).edges (edges_left m) word

abbrev pub levels_of : Module → Bool → ℕ → ℕ
levels_of m ss word =
    levels_by m.settings ss m.engine.pins.sck (current m.settings m.engine).edges (edges_left m) word 0 m

-- The whole call: the edge to the idle level if need be, and those of the word.
unfoldable pub whole_word : Module → Bool → ℕ → Worded
whole_word m ss word =
    let ready : Module = after_calls m (idled m ss word) in
    record {
      answer = Done;
      count = bits_left m.settings (current m.settings m.engine).edges;
      levels = levels_of ready ss word;
      after = after_calls ready (edges_of ready ss word);
    }

-- Any other module makes one step, with the lowest bit: a framed one an edge, at which SDO is one level; one that rests sees SCK as it was; and
-- one that is disabled is refused.
unfoldable pub step_level : Module → Bool → Bool
step_level m ss =
    when not (framed m.settings) && resting m.settings ss m.engine then m.engine.pins.sck else not m.engine.pins.sck

unfoldable pub one_step : Module → Bool → ℕ → Worded
one_step m ss word =
    let step : Outcome = perform_of m (ClockStep (step_level m ss) (bit_of word 0) ss) in
    record {
      answer = step.answer;
      count = bool_byte (m.settings.spien && framed m.settings);
      levels = bool_byte ((m.settings.spien && framed m.settings) && m.engine.pins.sdo);
      after = step.after;
    }

unfoldable pub word_of : Module → Bool → ℕ → Worded
word_of m ss word = when has_word m ss then whole_word m ss word else one_step m ss word

-- The clock steps that the call stands for, as one list.
unfoldable pub steps_of : Module → Bool → ℕ → List Call
steps_of m ss word =
    when has_word m ss then idled m ss word ++ edges_of (after_calls m (idled m ss word)) ss word
    else ClockStep (step_level m ss) (bit_of word 0) ss ∷ []

-- A look: whether an accepted word would go out next, and which. It is the one begun, the one loaded, or the next to be sent by an SSEN client.
unfoldable pub sends_next : Module → Bool
sends_next m =
    m.settings.spien
    && (not (silent m.settings && is_free m.engine.shift) && not (current m.settings m.engine).filler)

-- A look: the edges that an unframed host with its own clock still makes until it is idle, 2w for each word that waits and for the one in the shift register, less
-- those given (document 01, demand 3). Any other module owes none.
abbrev pub words_in : Shift → ℕ
words_in Free = 0
words_in (Loaded word) = 1
words_in (Begun p) = when p.filler then 0 else 1

abbrev pub edges_in : Shift → ℕ
edges_in Free = 0
edges_in (Loaded word) = 0
edges_in (Begun p) = p.edges

unfoldable pub edges_owed : Module → ℕ
edges_owed m =
    when m.settings.spien && unframed_host m.settings
    then word_edges m.settings * (words_in m.engine.shift + m.engine.transmit.count) - edges_in m.engine.shift
    else 0
