use mathlib.Core.Path.{sym}
use native.Mathlib.Omega.{arith}
use Rattle.lists.proofs.Bools.{fails}
use Rattle.chart_records.proofs.Ranges.{counts_range, range_counts}
use Rattle.chart_records.proofs.header.in_range.Goals as goal

pub returns-then-n-lt2 : goal.returns-then-n-lt2
returns-then-n-lt2 c = sym (fails _ (λ t. let r = counts_range _ t in omega arith))

pub returns-then-n-gt48 : goal.returns-then-n-gt48
returns-then-n-gt48 c = sym (fails _ (λ t. let r = counts_range _ t in omega arith))

pub returns-then-n-gt8 : goal.returns-then-n-gt8
returns-then-n-gt8 c = sym (fails _ (λ t. let r = counts_range _ t in omega arith))

pub returns-then-n-gt16 : goal.returns-then-n-gt16
returns-then-n-gt16 c = sym (fails _ (λ t. let r = counts_range _ t in omega arith))

pub returns-then-channels-gt16 : goal.returns-then-channels-gt16
returns-then-channels-gt16 c = sym (fails _ (λ t. let r = counts_range _ t in omega arith))

pub returns-then-n-lt1 : goal.returns-then-n-lt1
returns-then-n-lt1 c = sym (fails _ (λ t. let r = counts_range _ t in omega arith))

pub returns-then-n-gt16-2 : goal.returns-then-n-gt16-2
returns-then-n-gt16-2 c = sym (fails _ (λ t. let r = counts_range _ t in omega arith))

pub returns-then-n-gt8-2 : goal.returns-then-n-gt8-2
returns-then-n-gt8-2 c = sym (fails _ (λ t. let r = counts_range _ t in omega arith))

pub returns-then-n-gt64 : goal.returns-then-n-gt64
returns-then-n-gt64 c = sym (fails _ (λ t. let r = counts_range _ t in omega arith))

pub returns : goal.returns
returns c = sym (range_counts _ (record { states_some = omega arith; states_few = omega arith; clocks_few = omega arith; variables_few = omega arith; channels_few = omega arith; entries_some = omega arith; entries_few = omega arith; exits_few = omega arith; transitions_few = omega arith }))
