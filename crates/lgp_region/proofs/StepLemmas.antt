-- What the walks share of a body: what runs after a `match`.
use seplogic.Ra.Ura.{Ura}
use mir.Syntax.{Body}
use prog.Wp.{Env, Calls, Loops, Wp, after_seq}
use types.Logic.{Logic}
use types.Kit.{Post, any_q, post}

module _ {M : Type 1} {𝓤 : Ura M} (𝓛 : Logic 𝓤) where
  open 𝓛 use {H}

  -- that an arm ends, and then this code runs
  abbrev pub then_runs : Calls 𝓤 H → Loops 𝓤 H → Env 𝓤 H → Body → Post 𝓤 H → Post 𝓤 H
  then_runs C Λ E b q = any_q (after_seq 𝓤 H (Wp 𝓤 H C Λ E b (post 𝓤 H q)) (post 𝓤 H q))
