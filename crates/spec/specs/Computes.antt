-- Written by tools/computes.py. Whoever unfolds `computes` unfolds every definition, so that an example is computed whole.
use Rattle.words.specs.Equality as Equality
use Rattle.words.specs.Order as Order
use Rattle.words.specs.Runs as Runs
use Rattle.words.specs.Words as Words
use Rattle.spec.specs.Answer as Answer
use Rattle.spec.specs.Book as Book
use Rattle.spec.specs.Calls as Calls
use Rattle.spec.specs.Kept as Kept
use Rattle.spec.specs.Keys as Keys
use Rattle.spec.specs.Kinds as Kinds
use Rattle.spec.specs.Lower as Lower
use Rattle.spec.specs.Merge as Merge
use Rattle.spec.specs.Module as Module
use Rattle.spec.specs.Moved as Moved
use Rattle.spec.specs.Scopes as Scopes
use Rattle.spec.specs.Sheet as Sheet
use Rattle.spec.specs.State as State
use Rattle.spec.specs.Steps as Steps
use Rattle.spec.specs.Tree as Tree

unfoldable pub computes : Unit {0}
unfolding Equality.equalb Order.order Runs.run Runs.splice Words.number Words.bytes_of Words.word Words.set_word Answer.builtins Answer.index_from Answer.scope_at Answer.chain_to Answer.chain Answer.last_with Answer.defined_in Answer.innermost Answer.if_with Answer.withs_of Answer.some_withs Answer.after_builtins Answer.after_definitions Answer.answer_in Answer.answer_at Answer.text_of_name Answer.reference_text Answer.scope_of_expr Answer.means Answer.answer_of Answer.answer Answer.references_from Answer.references Book.book_of Book.book_moved Book.book_outcome Book.book_with Book.book_after Book.book_outcomes Book.book_after_all Calls.loading Calls.with_list Calls.set_name Calls.set_reference Calls.or_empty Calls.new_text Calls.old_text Calls.with_text Calls.spent_by Calls.check Calls.reply_of Calls.buffer_of Calls.in_buffer Calls.give_answer Calls.give_moved Calls.in_room Calls.give_text Calls.if_reference Calls.answer_call Calls.outcome Calls.is_accepted Calls.moved_of Kept.tabulate Kept.answers_afresh Kept.references_afresh Kept.kept_of Kept.loaded Kept.kept_answer Kept.kept_references Kept.resolved_again Kept.moved_by Kept.answered_with Kept.listed_again Kept.changed_to Kept.kept_with Kept.changed Kept.kept_moved Kept.kept_outcome Kept.kept_after Keys.present Keys.after_first Keys.kind Keys.flag Keys.text Keys.pointer Keys.kid Keys.kid_of Keys.items Keys.items_after Keys.flatten_paren Keys.literal_of Keys.get_str_literal Keys.str_key Keys.inside_dynamic Keys.attr_kind Kinds.takes Kinds.kinds Kinds.kind_of Lower.lower_if_there Lower.lower_part Lower.string_as Lower.lower_string Lower.has_interpolation Lower.lower_path Lower.lower_attr Lower.lower_attrpath_opt Lower.lower_name Lower.lower_field Lower.lower_pattern Lower.lower_param Lower.pair Lower.lower_if_else Lower.lower_select Lower.lower_has_attr Lower.lower_float Lower.lower_integer Lower.lower_lambda Lower.lower_let_in Lower.lower_list Lower.lower_bin_op Lower.lower_attr_set Lower.lower_unary_op Lower.lower_ident Lower.lower_as Lower.module_of Lower.lower_module Lower.lower_expr Lower.merge_bindings Merge.is_at Merge.find_from Merge.find Merge.entry_at Merge.set_at Merge.name_in Merge.nested_in Merge.with_value Merge.with_nested Merge.nested_at Merge.name_pointer Merge.name_key Merge.merge_value_at Merge.merge_static_value Merge.new_nested Merge.nested_or Merge.nested_static_at Merge.get_or_create_nested_static Merge.here_or_later Merge.insert_static Merge.statics_of Merge.sources_of Merge.dynamics_of Merge.finish_value Merge.finish_static Merge.finish_with Merge.finish_to Merge.finish_expr Merge.finish Merge.lower_opt Merge.push_dynamic Merge.merge_lowered Merge.merge_into Merge.merge_keyed Merge.merge_attr_as Merge.merge_attr_value Merge.merge_step_as Merge.merge_nested_attr_value Merge.merge_path Merge.attributes Merge.merge_attrpath_val Merge.inherit_value Merge.inherit_as Merge.inherit_attr Merge.inherit_source Merge.merge_inherit Merge.merge_entry Merge.entries_of Merge.merge_entries Merge.desugar Module.same_pointer Module.points_to Module.last_at Module.expr_pointers Module.name_pointers Module.expr_for_node Module.name_for_node Moved.numbers_of Moved.same_answer Moved.cons_if Moved.passing Moved.differing Moved.bears Moved.within Moved.may_move Scopes.place_expr Scopes.open_scope Scopes.open_for Scopes.one_or_none Scopes.field_names Scopes.field_defaults Scopes.pat_fields Scopes.interpolated Scopes.is_definition Scopes.if_inherited Scopes.inherited Scopes.if_plain Scopes.plain_values Scopes.keys_and_values Scopes.form Scopes.made_at Scopes.expr_at Scopes.name_at Scopes.defined Scopes.traverse_bindings Scopes.traverse_lambda Scopes.traverse_with Scopes.traverse_as Scopes.traverse_to Scopes.traverse_expr Scopes.scopes_of Scopes.is_in Scopes.holds Scopes.holder_from Scopes.holder Sheet.fault_number Sheet.next Sheet.◌>>=◌ Sheet.give Sheet.after Sheet.up_to_end Sheet.line Sheet.field Sheet.is_digit Sheet.all_digits Sheet.value_from Sheet.decimal Sheet.number Sheet.kid Sheet.cut_before Sheet.cut_at_commas Sheet.all_kids Sheet.kid_list Sheet.all_below Sheet.hex_digit Sheet.hex Sheet.bits_from Sheet.is_float Sheet.is_empty Sheet.text_fits Sheet.node Sheet.nodes_from Sheet.node_list Sheet.whole Sheet.read_sheet State.new_made State.alloc_expr State.alloc_missing State.alloc_name State.add_duplicate State.new_set State.set_entries State.add_entry State.set_entry State.cut State.inner Steps.◌>>=◌ Steps.give Steps.asks Steps.when Steps.each Steps.each_of Tree.nobody Tree.node_at Tree.kid_places Tree.then_walk Tree.count_fits Tree.kid_fits Tree.walk_kids Tree.walk_node Tree.walk_to Tree.whole_tree Tree.judge_tree Tree.judge
computes = tt
