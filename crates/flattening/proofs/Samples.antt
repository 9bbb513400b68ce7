-- The samples of the paper are answered right: one theorem over the table, computed from the definitions.
use mathlib.Core.Path.{◌≡◌, refl}
use mathlib.Core.Bool as Bool
use mathlib.Core.List.{map}
use Rattle.reading.specs.Answer as Answer
use Rattle.clocks.specs.Clocks as Clocks
use Rattle.expr.specs.Expression as Expression
use Rattle.labels.specs.Guard as Guard
use Rattle.numbers.specs.Integer as Integer
use Rattle.numbers.specs.Relation as Relation
use Rattle.numbers.specs.Value as Value
use Rattle.labels.specs.Label as Label
use Rattle.updates.specs.Update as Update
use Rattle.lists.specs.Lists as Lists
use Rattle.steps.specs.Moves as Moves
use Rattle.reading.specs.Places as Places
use Rattle.reading.specs.Reading as Reading
use Rattle.chart_records.specs.Chart as Chart
use Rattle.chart_moves.specs.Machine as chartMachine
use Rattle.chart_records.specs.Rules as Rules
use Rattle.chart_records.specs.Tree as Tree
use Rattle.network_moves.specs.Machine as networkMachine
use Rattle.network_records.specs.Network as Network
use Rattle.flattening.specs.File as File
use Rattle.flattening.specs.Flatten as Flatten
use Rattle.flattening.specs.Samples.{answered, samples}

pub samples_right : map (λ s. answered s.request) samples ≡ map (λ s. s.right) samples
unfolding
    Bool.xor Answer.◌>>=◌ Answer.unless Clocks.in_limit Clocks.is_zero Clocks.join Clocks.keeps Clocks.later Clocks.reset Clocks.reset_from Clocks.row
    Clocks.ticks_left Clocks.zero_past Clocks.zeros_past Expression.after Expression.by Expression.codes Expression.divisor Expression.expression Expression.two
    Expression.value Guard.clock Guard.clock_guard Guard.data_guard Guard.difference_guard Guard.guard Guard.holds Guard.relation
    Guard.ticks Update.assign Update.form Update.of_form Update.opens Update.stays Update.update Update.updated Relation.compareℕ Relation.compareℤ Relation.relations Integer.floor_div Integer.floor_mod Integer.signed
    Value.exactly Label.assigns_once Label.body Label.body_once Label.channel_fits Label.guards_hold Label.label Label.receives Label.sends Lists.all
    Lists.any Lists.ascending Lists.below Lists.bits_from Lists.bits_of Lists.concat Lists.distinct Lists.elem Lists.has Lists.implies Lists.keep
    Lists.padded Lists.position Lists.range Lists.subset Moves.all_stay Moves.allowed Moves.clocks_after Moves.known Moves.maximal Moves.one_sends Moves.senders
    Moves.variables_after Places.onward Reading.◌>>=◌ Reading.◌>>◌ Reading.byte Reading.byte2 Reading.byte4 Reading.end Reading.field Reading.framed
    Reading.many Reading.next Reading.recorded Reading.such Reading.whole Reading.yield Chart.basic Chart.counts_at Chart.counts_of Chart.headed
    Chart.home Chart.in_range Chart.numbered Chart.parallel Chart.parent_of Chart.read_chart Chart.records Chart.sequential Chart.state Chart.state_at
    Chart.states Chart.transition Chart.transition_at chartMachine.active_after chartMachine.active_transition chartMachine.after chartMachine.bounds_kept
    chartMachine.completed chartMachine.is_active chartMachine.is_configuration chartMachine.is_tree chartMachine.start chartMachine.start_of
    chartMachine.step chartMachine.step_of chartMachine.tested chartMachine.wait chartMachine.wait_of Rules.apart Rules.chart_of Rules.entries
    Rules.entry_marks Rules.exit_marks Rules.exits Rules.few Rules.keeps_rules Rules.marked Rules.some_sequential Rules.parents Rules.siblings Rules.state_rules
    Rules.transition_rules Tree.children Tree.entered Tree.fixed Tree.path Tree.sensors Tree.sequentials Tree.shares Tree.under Tree.up_from networkMachine.active_edge networkMachine.after
    networkMachine.bounds_kept networkMachine.flags_agree networkMachine.is_configuration networkMachine.move networkMachine.overwrite
    networkMachine.place networkMachine.start networkMachine.start_of networkMachine.step networkMachine.step_of networkMachine.tested
    networkMachine.urgent networkMachine.write Network.counts_of Network.edge Network.edge_at Network.edges_ascend Network.headed Network.initials
    Network.key Network.lex_less Network.location Network.location_at Network.network_of Network.numbered Network.owner_of Network.read_network
    Network.records Network.sound Network.urgent_at File.content_bytes File.edge_bytes File.fitted File.flatten_of File.location_bytes File.network_bytes
    File.out2 File.out4 File.record_bytes Flatten.all_places Flatten.alternatives Flatten.arrival Flatten.arrival_bounds Flatten.at_exit Flatten.automaton
    Flatten.bearing Flatten.bearing_all Flatten.bounds_of Flatten.carried_from Flatten.choices_from Flatten.departure Flatten.edge Flatten.enter_channel
    Flatten.enter_pairs Flatten.enters_by Flatten.exit_channel Flatten.exit_pairs Flatten.exit_tested Flatten.flag_at Flatten.flatten Flatten.from_place Flatten.has_entry
    Flatten.has_exit Flatten.heard_entries Flatten.heard_exits Flatten.initial_place Flatten.insert Flatten.join_all Flatten.join_onto Flatten.joined Flatten.leaves_by
    Flatten.location_of Flatten.marked_child Flatten.marks_below Flatten.number Flatten.on_values Flatten.own Flatten.own_edge Flatten.own_from Flatten.pairs
    Flatten.place_home Flatten.places Flatten.pre_bounds Flatten.same_pair Flatten.same_place Flatten.signalling Flatten.sorted Flatten.sums
    Flatten.sums_of Flatten.to_place Flatten.transitions Flatten.urgent_place Flatten.values_by Flatten.written_by
samples_right = refl
