-- What is proved of the definitions, by subject. A folder cites only itself and those above it; each file begins with
-- what it shows, and THEOREM stands before its main statements.

-- Laws of tests, of lists and of sums over them.
pub mod general
-- What is known of the bytes and the nodes of a sheet once its lines were read. Ends in `flags_held`, `floats_held`,
-- `refused_number`, `refused_place`.
pub mod reading
-- Lowering uses what it allocates once, so a walk enters each name and reaches each expression at most once. Ends in
-- `lowered_held_once`, `lowered_walked_once`.
pub mod once
-- What is known of the nodes of a sheet once the walk accepted them: subtrees, their sizes, kid places, keys. Ends in
-- `kid_room`, `size_all`, `weighs_all`.
pub mod tree
-- What single steps of lowering add to the lists and the stacks, what they weigh and what they fill.
pub mod steps
-- What stays true of the sets that are being merged, and what it takes to finish one. Ends in `above_bindings`,
-- `finish_leaves`, `loads_forest`.
pub mod sets
-- What a changed text can move, and that what is kept stays what is worked out afresh, up to demand 3. Ends in
-- `answer_at_agree`, `reference_moves_itself`, `place_stays`, `stays_afresh`, `call_moves`, `demand3`.
pub mod change
-- What is kept of a module is sound: every number in range, in order, and what it is said to be. Ends in
-- `lowered_ordered`, `lowered_walk_step`, `loaded_sound`, `after_sound`, `lowered_inherits`, `operators_in`.
pub mod sound
-- An accepted sheet never runs out of room, nor does any call after it. Ends in `sheet_room`, `loaded_limits`,
-- `after_room`.
pub mod room
