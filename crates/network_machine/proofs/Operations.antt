-- What the operations on a file answer, by what the check says of it.
use mathlib.Core.Path.{◌≡◌}
use mathlib.Core.List.{List}
use Prim.Native.Nat.{ℕ}
use Rattle.reading.specs.Answer.{done, refused, ◌>>=◌}
use Rattle.network_records.specs.Network.{Network, network_of}
use Rattle.network_moves.specs.Machine.{start, step, wait, longest, start_of, step_of, wait_of, longest_of}
use Rattle.network_moves.specs.declared.configuration.Configuration.{Configuration}

module _ (file : List ℕ) where
  pub start_refused : {m : ℕ} → network_of file ≡ refused m → start_of file ≡ refused m
  unfolding start_of ◌>>=◌
  start_refused h = rw h

  pub start_done : {n : Network} → network_of file ≡ done n → start_of file ≡ done (start n)
  unfolding start_of ◌>>=◌
  start_done h = rw h

  module _ (c : Configuration) where
    pub wait_refused : (ticks : ℕ) {m : ℕ} → network_of file ≡ refused m → wait_of file c ticks ≡ refused m
    unfolding wait_of ◌>>=◌
    wait_refused ticks h = rw h

    pub wait_done : (ticks : ℕ) {n : Network} → network_of file ≡ done n → wait_of file c ticks ≡ wait n c ticks
    unfolding wait_of ◌>>=◌
    wait_done ticks h = rw h

    pub step_refused : (ms : List ℕ) {m : ℕ} → network_of file ≡ refused m → step_of file c ms ≡ refused m
    unfolding step_of ◌>>=◌
    step_refused ms h = rw h

    pub step_done : (ms : List ℕ) {n : Network} → network_of file ≡ done n → step_of file c ms ≡ step n c ms
    unfolding step_of ◌>>=◌
    step_done ms h = rw h

    pub longest_refused : {m : ℕ} → network_of file ≡ refused m → longest_of file c ≡ refused m
    unfolding longest_of ◌>>=◌
    longest_refused h = rw h

    pub longest_done : {n : Network} → network_of file ≡ done n → longest_of file c ≡ longest n c
    unfolding longest_of ◌>>=◌
    longest_done h = rw h
