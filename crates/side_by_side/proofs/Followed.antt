-- Calls of the network that were followed, and shown.
use Rattle.std.proofs.Common.{◌≡◌, sym, subst, ℕ, List, [], ◌∷◌, ◌++◌, Result, Ok, Err, IfOk}
use Rattle.chart_records.specs.Chart.{Chart}
use Rattle.network_records.specs.Network.{Network}
use Rattle.agreement.specs.Agreement as agreed
use Rattle.console.specs.Script.{numbers_of}
use Rattle.console.specs.declared.script.Call.{Call}
use Rattle.console.specs.declared.script.Call.TheVariants as Ca
use Rattle.console.specs.declared.script.Line.{Line}
use Rattle.paired_run.specs.Paired.{Flattening, Stands, FollowsCall}
use Rattle.paired_run.specs.declared.run.Run.{Run}
use Rattle.paired_run.specs.declared.run.Followed.{Followed}
use Rattle.side_by_side.specs.Lines.{AfterBy, AfterLine}

-- what is known of a call that was followed from a run
abbrev pub FollowedBy : List ℕ → List ℕ → Run → agreed.Call → Followed → Type 0
FollowedBy file bytes r x f = (c : Chart) (n : Network) (calls : List agreed.Call) → Flattening file bytes c n → Stands r (agreed.run c n calls) → FollowsCall c n calls x f

module _ {E : Type 0} (file bytes : List ℕ) (r : Run) (l : Line) (f : Followed) where
  pub stepped : (ms : List ℕ) (x : Result Run E) → IfOk x (λ s. s ≡ f.run) → FollowedBy file bytes r (agreed.step ms) f → l.call ≡ Ca.Step → ms ≡ numbers_of l → IfOk x (λ s. AfterLine file bytes r l s)
  stepped ms (Ok s) e F k m = λ c n G. subst (λ (y : Call). AfterBy c n r y (numbers_of l) s) (sym k)
      (λ calls S. subst (λ (t : Run). Stands t (agreed.run c n (calls ++ (agreed.step (numbers_of l) ∷ [])))) (sym e)
      (subst (λ (ns : List ℕ). Stands f.run (agreed.run c n (calls ++ (agreed.step ns ∷ [])))) m (F c n calls G S).stands))
  stepped ms (Err e) h F k m = tt

  pub waited : (d : ℕ) (x : Result Run E) → IfOk x (λ s. s ≡ f.run) → FollowedBy file bytes r (agreed.wait d) f → l.call ≡ Ca.Wait d → IfOk x (λ s. AfterLine file bytes r l s)
  waited d (Ok s) e F k = λ c n G. subst (λ (y : Call). AfterBy c n r y (numbers_of l) s) (sym k)
      (λ calls S. subst (λ (t : Run). Stands t (agreed.run c n (calls ++ (agreed.wait d ∷ [])))) (sym e) (F c n calls G S).stands)
  waited d (Err e) h F k = tt
