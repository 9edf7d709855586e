-- Words without a fault choose some settings, and only these.
use Rattle.std.proofs.Common.{◌≡◌, ◌⊎◌, inl, inr, ℕ, ◌≤◌, List, [], Bool, true, false, cond, not, ◌&&◌, leb, codes, bytes_eq, Option, Some, None, Ok, Err, refl, sym, ap, ◌∙◌, subst, arith}
use Rattle.std.specs.List.{before_first, after_first}
use Rattle.std.proofs.lemmas.Bool.{and_parts}
use Rattle.std.proofs.lemmas.Bool.Decides.{nat_tests}
use Rattle.std.proofs.Math.Bridge.{le_prop}
use Rattle.std.proofs.Math.Path.{PathP, to_path_p}
use mathlib.Core.Bool.{Bool-set}
use Rattle.scr_base.specs.Numbers.{is_number, number_of}
use Rattle.scr_plan.proofs.OneReading.{SpellsRanges-same}
use Rattle.scr_plan.specs.Link.{Link}
use Rattle.scr_plan.specs.Spelling.{read_at, SpellsRanges}
use Rattle.scr_plan.specs.DelaySpelling.{delay_read_at, SpellsDelays}
use Rattle.scr_plan.specs.declared.drops.DropRange.{DropRange}
use Rattle.scr_plan.specs.declared.delays.FrameDelay.{FrameDelay}
use Rattle.scr_words.specs.declared.word_fault.WordCause.TheVariants.{Drop, Repeat, Delay}
use Rattle.scr_program.specs.declared.setting.SettingError.TheVariants.{Value, Range}
use Rattle.scr_knock.specs.Ports.{is_comma, is_port, ports_of}
use Rattle.scr_knock.specs.declared.settings.KnockSettings.{KnockSettings}
use Rattle.scr_tables.specs.Rules.{IsTable}
use Rattle.scr_tables.specs.Spelling as tables
use Rattle.scr_tables.specs.declared.rule.Rule.{Rule}
use Rattle.scr_tables.specs.declared.settings.TableSettings.{TableSettings}
use Rattle.scr_tables.proofs.OneReading as tables_are
use Rattle.scr_tables.proofs.Spelled.{IsTable-from_rules}
use Rattle.scr_program.specs.declared.table.TheConstants.{MOST_FLOWS}
use Rattle.scr_words.specs.declared.settings.Command.{Command}
use Rattle.scr_words.specs.declared.settings.ProgramSettings.{ProgramSettings}
use Rattle.scr_words.specs.declared.settings.ProgramSettings.TheVariants.{One, Chain, Table}
use Rattle.scr_words.specs.declared.settings.OneSettings.{OneSettings}
use Rattle.scr_words.specs.declared.settings.OneSettings.TheVariants.{Ddos, Heavy, Bucket, Knock, Conn}
use Rattle.scr_words.specs.declared.settings.RunSettings.{RunSettings}
use Rattle.scr_words.specs.declared.settings.Shape.{Shape}
use Rattle.scr_words.specs.declared.program_name.OneName.{OneName}
use Rattle.scr_words.specs.declared.program_name.OneName.TheVariants as name
use Rattle.scr_words.specs.declared.program_name.ProgramName.{ProgramName}
use Rattle.scr_words.specs.declared.program_name.ProgramName.TheVariants as program
use Rattle.scr_words.specs.declared.operand.Operand.TheVariants as operand
use Rattle.scr_words.specs.Operands.{line_of}
use Rattle.scr_words.specs.WordParts.{given, program_in, first_in, second_in}
use Rattle.scr_words.specs.WordFaults.{setting_fault, lacks_operand}
use Rattle.scr_words.specs.WordTests.{HaveFaultlessValues}
use Rattle.scr_words.specs.GivenSettings.{value_for, number_for, history_for, HasPorts, HasNumbers, name_of, HasProgram, HasLink, HasShape, AreChosen}
use Rattle.scr_words.proofs.GivenValues.{value_for-passes}
use Rattle.scr_words.proofs.FaultlessWords.{lacks-program, lacks-table, lacks-first, lacks-second}
use Rattle.scr_words.proofs.TextFaults.{list_fault-empty, ranges-some, delays-some, delays-same, table-some}
use Rattle.scr_words.proofs.FaultlessValues.{number-inside, history-short}

-- ports without a fault
read-some : {A : Type 0} (numbers ports : Bool) (read : A) → setting_fault (cond (not numbers) (Err Value) (cond (not ports) (Err Range) (Ok read))) ≡ None
    → (numbers ≡ true) × (ports ≡ true)
read-some false ports read none = absurd cc
read-some true false read none = absurd cc
read-some true true read none = (refl, refl)

-- the texts of the three ports
abbrev first_text : List ℕ → List ℕ
first_text text = before_first is_comma text

abbrev second_text : List ℕ → List ℕ
second_text text = before_first is_comma (after_first is_comma text)

abbrev third_text : List ℕ → List ℕ
third_text text = after_first is_comma (after_first is_comma text)

record ArePorts (first second third : List ℕ) : Type 0 where
  read : ports_of first second third ≡ Ok (number_of first, number_of second, number_of third)
  first_some : 1 ≤ number_of first
  second_some : 1 ≤ number_of second
  third_some : 1 ≤ number_of third

abbrev ArePorts-of : List ℕ → Type 0
ArePorts-of text = ArePorts (first_text text) (second_text text) (third_text text)

some-port : (number : ℕ) → is_port number ≡ true → 1 ≤ number
some-port number port =
    let least : leb 1 number ≡ true = (and_parts (leb 1 number) (leb number 65535) port).0 in
    grind (arith, nat_tests, least)

ArePorts-from : (first second third : List ℕ) → setting_fault (ports_of first second third) ≡ None → ArePorts first second third
ArePorts-from first second third none =
    let passed = read-some (is_number first && (is_number second && is_number third))
    (is_port (number_of first) && (is_port (number_of second) && is_port (number_of third)))
    (number_of first, number_of second, number_of third) none in
    let a = and_parts (is_port (number_of first)) (is_port (number_of second) && is_port (number_of third)) passed.1 in
    let b = and_parts (is_port (number_of second)) (is_port (number_of third)) a.1 in
    record {
      read = rw (passed.0, passed.1) refl;
      first_some = some-port (number_of first) a.0;
      second_some = some-port (number_of second) b.0;
      third_some = some-port (number_of third) b.1;
    }

HasPorts-are : (text : List ℕ) (settings : KnockSettings) → ArePorts-of text → HasPorts text settings
    → (settings.first ≡ number_of (first_text text)) × (settings.second ≡ number_of (second_text text)) × (settings.third ≡ number_of (third_text text))
HasPorts-are text settings ports has = rw ports.read at has

-- facts along an equation
at_least : {bound m n : ℕ} (e : m ≡ n) (p : bound ≤ m) (q : bound ≤ n) → PathP (λ i. bound ≤ e i) p q
at_least {bound} e p q = to_path_p (λ i. bound ≤ e i) (le_prop _ q)

at_most : {bound m n : ℕ} (e : m ≡ n) (p : m ≤ bound) (q : n ≤ bound) → PathP (λ i. e i ≤ bound) p q
at_most {bound} e p q = to_path_p (λ i. e i ≤ bound) (le_prop _ q)

IsTable-prop : (rules : List Rule) → IsProp (IsTable rules)
IsTable-prop rules = hlevel (le_prop, Bool-set)

is_table : {a b : List Rule} (e : a ≡ b) (p : IsTable a) (q : IsTable b) → PathP (λ i. IsTable (e i)) p q
is_table {b = b} e p q = to_path_p (λ i. IsTable (e i)) (IsTable-prop b _ q)

module _ (command : Command) (operands : List (List ℕ)) (values : HaveFaultlessValues command operands) where
  flows_inside : (1 ≤ number_for operand.Flows operands) × (number_for operand.Flows operands ≤ MOST_FLOWS)
  flows_inside = number-inside command operands values operand.Flows refl refl

  ports_are : ArePorts-of (value_for operand.Ports operands)
  ports_are = ArePorts-from _ _ _ (value_for-passes command operand.Ports operands values refl)

  -- the settings of a program by the values that its operands have
  abbrev made : OneName → OneSettings
  made name.Ddos = Ddos (record {
    threshold = number_for operand.Threshold operands;
    flows = number_for operand.Flows operands;
    threshold_fits = (number-inside command operands values operand.Threshold refl refl).1;
    some = flows_inside.0;
    few = flows_inside.1;
  })
  made name.Heavy = Heavy (record {
    bytes = number_for operand.Bytes operands;
    flows = number_for operand.Flows operands;
    bytes_some = (number-inside command operands values operand.Bytes refl refl).0;
    bytes_fits = (number-inside command operands values operand.Bytes refl refl).1;
    some = flows_inside.0;
    few = flows_inside.1;
  })
  made name.Bucket = Bucket (record {
    rate = number_for operand.Rate operands;
    burst = number_for operand.Burst operands;
    flows = number_for operand.Flows operands;
    rate_fits = (number-inside command operands values operand.Rate refl refl).1;
    burst_some = (number-inside command operands values operand.Burst refl refl).0;
    burst_fits = (number-inside command operands values operand.Burst refl refl).1;
    some = flows_inside.0;
    few = flows_inside.1;
  })
  made name.Knock = Knock (record {
    first = number_of (first_text (value_for operand.Ports operands));
    second = number_of (second_text (value_for operand.Ports operands));
    third = number_of (third_text (value_for operand.Ports operands));
    flows = number_for operand.Flows operands;
    some_first = ports_are.first_some;
    some_second = ports_are.second_some;
    some_third = ports_are.third_some;
    some_flows = flows_inside.0;
    few_flows = flows_inside.1;
  })
  made name.Conn = Conn (record {
    idle = number_for operand.Idle operands;
    flows = number_for operand.Flows operands;
    some_time = (number-inside command operands values operand.Idle refl refl).0;
    few_time = (number-inside command operands values operand.Idle refl refl).1;
    some_flows = flows_inside.0;
    few_flows = flows_inside.1;
  })

  name_of-made : (one : OneName) → name_of (made one) ≡ one
  name_of-made name.Ddos = refl
  name_of-made name.Heavy = refl
  name_of-made name.Bucket = refl
  name_of-made name.Knock = refl
  name_of-made name.Conn = refl

  named : (one : OneName) → Some one ≡ Some (name_of (made one))
  named one = ap Some (sym (name_of-made one))

  HasNumbers-made : (one : OneName) → HasNumbers operands (made one)
  HasNumbers-made name.Ddos = (refl, refl)
  HasNumbers-made name.Heavy = (refl, refl)
  HasNumbers-made name.Bucket = (refl, refl, refl)
  HasNumbers-made name.Knock = (rw ports_are.read (refl, refl, refl), refl)
  HasNumbers-made name.Conn = (refl, refl)

  -- no others have these numbers
  made-same : (settings : OneSettings) → HasNumbers operands settings → settings ≡ made (name_of settings)
  made-same (Ddos settings) (threshold, flows) =
      λ i. Ddos (record {
        threshold = threshold i;
        flows = flows i;
        threshold_fits = at_most threshold settings.threshold_fits (number-inside command operands values operand.Threshold refl refl).1 i;
        some = at_least flows settings.some flows_inside.0 i;
        few = at_most flows settings.few flows_inside.1 i;
      })
  made-same (Heavy settings) (bytes, flows) =
      λ i. Heavy (record {
        bytes = bytes i;
        flows = flows i;
        bytes_some = at_least bytes settings.bytes_some (number-inside command operands values operand.Bytes refl refl).0 i;
        bytes_fits = at_most bytes settings.bytes_fits (number-inside command operands values operand.Bytes refl refl).1 i;
        some = at_least flows settings.some flows_inside.0 i;
        few = at_most flows settings.few flows_inside.1 i;
      })
  made-same (Bucket settings) (rate, burst, flows) =
      λ i. Bucket (record {
        rate = rate i;
        burst = burst i;
        flows = flows i;
        rate_fits = at_most rate settings.rate_fits (number-inside command operands values operand.Rate refl refl).1 i;
        burst_some = at_least burst settings.burst_some (number-inside command operands values operand.Burst refl refl).0 i;
        burst_fits = at_most burst settings.burst_fits (number-inside command operands values operand.Burst refl refl).1 i;
        some = at_least flows settings.some flows_inside.0 i;
        few = at_most flows settings.few flows_inside.1 i;
      })
  made-same (Knock settings) (ports, flows) =
      let (first, second, third) = HasPorts-are (value_for operand.Ports operands) settings ports_are ports in
      λ i. Knock (record {
        first = first i;
        second = second i;
        third = third i;
        flows = flows i;
        some_first = at_least first settings.some_first ports_are.first_some i;
        some_second = at_least second settings.some_second ports_are.second_some i;
        some_third = at_least third settings.some_third ports_are.third_some i;
        some_flows = at_least flows settings.some_flows flows_inside.0 i;
        few_flows = at_most flows settings.few_flows flows_inside.1 i;
      })
  made-same (Conn settings) (idle, flows) =
      λ i. Conn (record {
        idle = idle i;
        flows = flows i;
        some_time = at_least idle settings.some_time (number-inside command operands values operand.Idle refl refl).0 i;
        few_time = at_most idle settings.few_time (number-inside command operands values operand.Idle refl refl).1 i;
        some_flows = at_least flows settings.some_flows flows_inside.0 i;
        few_flows = at_most flows settings.few_flows flows_inside.1 i;
      })

  table-same : (a b : TableSettings) → tables.SpellsTable (value_for operand.Table operands) a.table → tables.SpellsTable (value_for operand.Table operands) b.table
      → a.flows ≡ number_for operand.Flows operands → b.flows ≡ number_for operand.Flows operands → a ≡ b
  table-same a b spells_a spells_b flows_a flows_b =
      let table = tables_are.SpellsTable-same (value_for operand.Table operands) a.table b.table spells_a spells_b in
      let flows = flows_a ∙ sym flows_b in
      λ i. record {
        table = table i;
        flows = flows i;
        valid = is_table table a.valid b.valid i;
        some = at_least flows a.some b.some i;
        few = at_most flows a.few b.few i;
      }

  one-same : (a b : OneSettings) → HasNumbers operands a → HasNumbers operands b → name_of a ≡ name_of b → a ≡ b
  one-same a b has_a has_b same = made-same a has_a ∙ ap made same ∙ sym (made-same b has_b)

  program-same : (a b : ProgramSettings) → HasProgram command operands a → HasProgram command operands b → a ≡ b
  program-same (One a) (One b) has_a has_b = ap One (one-same a b has_a.1 has_b.1 (cc (has_a.0, has_b.0)))
  program-same (Chain a c) (Chain b d) has_a has_b =
      let first = one-same a b has_a.3 has_b.3 (cc (has_a.1, has_b.1)) in
      let second = one-same c d has_a.4 has_b.4 (cc (has_a.2, has_b.2)) in
      λ i. Chain (first i) (second i)
  program-same (Table a) (Table b) has_a has_b = ap Table (table-same a b has_a.1 has_b.1 has_a.2 has_b.2)
  program-same (One a) (Chain b d) has_a has_b = absurd (cc (has_a.0, has_b.0))
  program-same (One a) (Table b) has_a has_b = absurd (cc (has_a.0, has_b.0))
  program-same (Chain a c) (One b) has_a has_b = absurd (cc (has_a.0, has_b.0))
  program-same (Chain a c) (Table b) has_a has_b = absurd (cc (has_a.0, has_b.0))
  program-same (Table a) (One b) has_a has_b = absurd (cc (has_a.0, has_b.0))
  program-same (Table a) (Chain b d) has_a has_b = absurd (cc (has_a.0, has_b.0))

  pub drops_some : (ranges : List DropRange) × SpellsRanges (value_for operand.Drop operands) ranges
  drops_some = ranges-some Drop (value_for operand.Drop operands) (value_for-passes command operand.Drop operands values (list_fault-empty read_at Drop))

  pub repeats_some : (ranges : List DropRange) × SpellsRanges (value_for operand.Repeat operands) ranges
  repeats_some = ranges-some Repeat (value_for operand.Repeat operands) (value_for-passes command operand.Repeat operands values (list_fault-empty read_at Repeat))

  pub delays_some : (delays : List FrameDelay) × SpellsDelays (value_for operand.Delay operands) delays
  delays_some = delays-some Delay (value_for operand.Delay operands) (value_for-passes command operand.Delay operands values (list_fault-empty delay_read_at Delay))

  link_some : (link : Link) × HasLink operands link
  link_some =
      let (drops, spells_drops) = drops_some in
      let (repeats, spells_repeats) = repeats_some in
      let (delays, spells_delays) = delays_some in (
        record { drops = drops; repeats = repeats; delays = delays; missing = [] },
        record { drops = spells_drops; repeats = spells_repeats; delays = spells_delays; missing = refl },
      )

  shape_some : (shape : Shape) × HasShape operands shape
  shape_some =
      let (link, has_link) = link_some in
      let cores = number-inside command operands values operand.Cores refl refl in
      let ring = number-inside command operands values operand.Ring refl refl in
      let shape : Shape = record {
        cores = number_for operand.Cores operands;
        history = history_for operands;
        link = link;
        ring = number_for operand.Ring operands;
        threads = bytes_eq (value_for operand.Threads operands) (codes "yes");
        some_cores = cores.0;
        few_cores = cores.1;
        short_history = history-short command operands values;
        some_ring = ring.0;
        short_ring = ring.1;
      } in
      (shape, record { cores = refl; history = refl; link = has_link; ring = refl; threads = refl })

  -- the words choose some program, or a required operand is absent
  abbrev SomeProgram : Type 0
  SomeProgram = ((settings : ProgramSettings) × HasProgram command operands settings) ⊎ (lacks_operand command operands ≡ true)

  table_by : program_in command operands ≡ Some program.Table → (found : Option (List ℕ)) → given (line_of operand.Table).name operands ≡ found → SomeProgram
  table_by is None absent = inr (lacks-table command operands is absent)
  table_by is (Some text) found =
      let (rules, spells) = table-some text (values operand.Table text found) in
      let value : value_for operand.Table operands ≡ text = rw found refl in
      let settings : TableSettings = record {
        table = rules;
        flows = number_for operand.Flows operands;
        valid = IsTable-from_rules text rules spells.spelled spells.complete;
        some = flows_inside.0;
        few = flows_inside.1;
      } in
      inl (Table settings, (is, subst (λ (t : List ℕ). tables.SpellsTable t rules) (sym value) spells, refl))

  chain_by : program_in command operands ≡ Some program.Chain → (first second : Option OneName) → first_in operands ≡ first → second_in operands ≡ second → SomeProgram
  chain_by is None second none is_second = inr (lacks-first command operands values is none)
  chain_by is (Some first) None is_first none = inr (lacks-second command operands values is none)
  chain_by is (Some first) (Some second) is_first is_second =
      inl (Chain (made first) (made second), (is, is_first ∙ named first, is_second ∙ named second, HasNumbers-made first, HasNumbers-made second))

  program_by : (found : Option ProgramName) → program_in command operands ≡ found → SomeProgram
  program_by None none = inr (lacks-program command operands values none)
  program_by (Some (program.One one)) is =
      inl (One (made one), (is ∙ ap (λ (n : OneName). Some (program.One n)) (sym (name_of-made one)), HasNumbers-made one))
  program_by (Some program.Chain) is = chain_by is (first_in operands) (second_in operands) refl refl
  program_by (Some program.Table) is = table_by is (given (line_of operand.Table).name operands) refl

  settings_by : (program : ProgramSettings) → HasProgram command operands program
      → (settings : RunSettings) × (settings.command ≡ command) × AreChosen operands settings
  settings_by program has_program =
      let (shape, has_shape) = shape_some in
      let hosts = number-inside command operands values operand.Hosts refl refl in
      let settings : RunSettings = record {
        command = command;
        program = program;
        shape = shape;
        start = number_for operand.Start operands;
        frames = number_for operand.Frames operands;
        hosts = number_for operand.Hosts operands;
        few_frames = (number-inside command operands values operand.Frames refl refl).1;
        some_hosts = hosts.0;
        few_hosts = hosts.1;
      } in
      (settings, refl, record { program = has_program; shape = has_shape; start = refl; frames = refl; hosts = refl })

  pub settings_some :
      ((settings : RunSettings) × (settings.command ≡ command) × AreChosen operands settings) ⊎ (lacks_operand command operands ≡ true)
  settings_some =
      elim (program_by (program_in command operands) refl) [
        | inl (program, has) ↦ inl (settings_by program has)
        | inr lacks ↦ inr lacks
      ]

-- two shapes with the same numbers are the same
Shape-same : (a b : Shape) → a.cores ≡ b.cores → a.history ≡ b.history → a.link ≡ b.link → a.ring ≡ b.ring → a.threads ≡ b.threads → a ≡ b
Shape-same a b cores history link ring threads = λ i. record {
  cores = cores i;
  history = history i;
  link = link i;
  ring = ring i;
  threads = threads i;
  some_cores = at_least cores a.some_cores b.some_cores i;
  few_cores = at_most cores a.few_cores b.few_cores i;
  short_history = at_most history a.short_history b.short_history i;
  some_ring = at_least ring a.some_ring b.some_ring i;
  short_ring = at_most ring a.short_ring b.short_ring i;
}

HasLink-same : (operands : List (List ℕ)) (a b : Link) → HasLink operands a → HasLink operands b → a ≡ b
HasLink-same operands a b of_a of_b =
    let drops = SpellsRanges-same (value_for operand.Drop operands) a.drops b.drops of_a.drops of_b.drops in
    let repeats = SpellsRanges-same (value_for operand.Repeat operands) a.repeats b.repeats of_a.repeats of_b.repeats in
    let delays = delays-same (value_for operand.Delay operands) a.delays b.delays of_a.delays of_b.delays in
    let missing = of_a.missing ∙ sym of_b.missing in
    λ i. record { drops = drops i; repeats = repeats i; delays = delays i; missing = missing i }

HasShape-same : (operands : List (List ℕ)) (a b : Shape) → HasShape operands a → HasShape operands b → a ≡ b
HasShape-same operands a b of_a of_b =
    Shape-same a b (of_a.cores ∙ sym of_b.cores) (of_a.history ∙ sym of_b.history)
    (HasLink-same operands a.link b.link of_a.link of_b.link) (of_a.ring ∙ sym of_b.ring)
    (of_a.threads ∙ sym of_b.threads)

RunSettings-same : (a b : RunSettings) → a.command ≡ b.command → a.program ≡ b.program → a.shape ≡ b.shape → a.start ≡ b.start
    → a.frames ≡ b.frames → a.hosts ≡ b.hosts → a ≡ b
RunSettings-same a b command program shape start frames hosts = λ i. record {
  command = command i;
  program = program i;
  shape = shape i;
  start = start i;
  frames = frames i;
  hosts = hosts i;
  few_frames = at_most frames a.few_frames b.few_frames i;
  some_hosts = at_least hosts a.some_hosts b.some_hosts i;
  few_hosts = at_most hosts a.few_hosts b.few_hosts i;
}

-- words choose one settings
pub AreChosen-same : (operands : List (List ℕ)) (a b : RunSettings) → HaveFaultlessValues a.command operands → a.command ≡ b.command
    → AreChosen operands a → AreChosen operands b → a ≡ b
AreChosen-same operands a b values command of_a of_b =
    let program = subst (λ (c : Command). HasProgram c operands b.program) (sym command) of_b.program in
    RunSettings-same a b command (program-same a.command operands values a.program b.program of_a.program program)
    (HasShape-same operands a.shape b.shape of_a.shape of_b.shape) (of_a.start ∙ sym of_b.start) (of_a.frames ∙ sym of_b.frames)
    (of_a.hosts ∙ sym of_b.hosts)
