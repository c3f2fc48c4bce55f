-- What the writers are after one of them published, or refused.
use Rattle.std.proofs.Common.{◌≡◌, ℕ, zero, suc, ◌<◌, Bool, true, false, Result, Ok, Err, IfOk, IfErr, OnErr, List, [], ◌∷◌, map, length, get_or, set, true≢false, not-suc-le-zero, sym, ap, ◌∙◌, subst, arith}
use Rattle.std.proofs.lemmas.List.{get_or_default}
use Rattle.edit_apply.specs.declared.Edit.{Edit}
use Rattle.guild_hub.specs.declared.writer.HubRefused.{HubRefused}
use Rattle.guild_hub.specs.declared.writer.HubRefused.TheVariants.{Full, Memory}
use Rattle.guild_hub.specs.Logs.{with_entry}
use Rattle.guild_hub.specs.Writes.{Publishing, publishing, Refuses}
use Rattle.guild_actor.specs.Acts.{most}
use Rattle.guild_places.specs.Places.{guilds_of}
use Rattle.guild_actor.specs.Desks.{Publishes, Tells, edited, logs_of}
use Rattle.guild_actor.proofs.Writers.{Writer}

-- a field of each writer that the new one keeps
kept : {X : Type 0} (f : Writer → X) (ws : List Writer) (place : ℕ) (y : Writer) → place < length ws → f y ≡ f (get_or ws place y) → map f (set ws place y) ≡ map f ws
kept f [] place y lt e = absurd (not-suc-le-zero lt)
kept f (w ∷ ws) zero y lt e = ap (λ x. x ∷ map f ws) e
kept f (w ∷ ws) (suc place) y lt e = ap (λ l. f w ∷ l) (kept f ws place y (omega (arith, lt)) e)

module _ (ws : List Writer) (place : ℕ) (w : Writer) (new : Publishing) (lt : place < length ws) (at : w ≡ get_or ws place w) where
  abbrev now : List Writer
  now = set ws place (w.0, new)

  at_any : (d : Writer) → w ≡ get_or ws place d
  at_any d = at ∙ get_or_default ws place w d lt

  pub same_guilds : guilds_of now ≡ guilds_of ws
  same_guilds = kept (λ (v : Writer). v.0) ws place (w.0, new) lt (ap (λ (v : Writer). v.0) (at_any (w.0, new)))

  pub added : (edit : Edit) {U F : Type 0} (g : Result U (Edit × HubRefused)) (r : Result Bool F)
      → IfOk g (λ _. (new ≡ publishing (with_entry w.1.log edit) w.1.mark false) × (length w.1.log.entries < most))
      → IfErr g (λ e. (e.0 ≡ edit) × Refuses w.1 new e.1) → IfOk g (λ _. r ≡ Ok true) → IfErr g (λ e. Tells e.1 r) → IfOk r (λ b. Publishes ws place edit b now)
  added edit (Ok u) r fine bad a b =
      subst (λ o. IfOk o (λ b. Publishes ws place edit b now)) (sym a)
      (λ d. (ap (λ p. set ws place (w.0, p)) fine.0 ∙ ap (λ v. set ws place (edited true edit v)) (at_any d), subst (λ (v : Writer). length v.1.log.entries < most) (at_any d) fine.1))
  added edit (Err (e, Full)) r fine bad a b =
      subst (λ o. IfOk o (λ b. Publishes ws place edit b now)) (sym b)
      (λ d. (ap (λ p. set ws place (w.0, p)) bad.1.1 ∙ ap (λ v. set ws place v) (at_any d), subst (λ (v : Writer). length v.1.log.entries ≡ most) (at_any d) bad.1.0))
  added edit (Err (e, Memory)) (Ok x) fine bad a b = absurd (true≢false (sym b))
  added edit (Err (e, Memory)) (Err x) fine bad a b = tt

  pub refused : (edit : Edit) {U F : Type 0} (g : Result U (Edit × HubRefused)) (r : Result Bool F)
      → IfErr g (λ e. (e.0 ≡ edit) × Refuses w.1 new e.1) → IfOk g (λ _. r ≡ Ok true) → IfErr g (λ e. Tells e.1 r) → OnErr r (logs_of now ≡ logs_of ws)
  refused edit (Ok u) r bad a b = subst (λ o. OnErr o (logs_of now ≡ logs_of ws)) (sym a) tt
  refused edit (Err (e, Full)) r bad a b = subst (λ o. OnErr o (logs_of now ≡ logs_of ws)) (sym b) tt
  refused edit (Err (e, Memory)) (Ok x) bad a b = tt
  refused edit (Err (e, Memory)) (Err x) bad a b =
      kept (λ (v : Writer). (v.0, v.1.log)) ws place (w.0, new) lt (ap (λ p. (w.0, p.log)) bad.1.1 ∙ ap (λ (v : Writer). (v.0, v.1.log)) (at_any (w.0, new)))
