-- What both actors of a run have left.
use Rattle.std.proofs.Common.{◌≡◌, ℕ, List, [], ◌∷◌, map, length, Some, refl, sym, ap, ap₂, ◌∙◌, subst, arith}
use Rattle.std.specs.List.{All, AllZip, range_with_len}
use Rattle.std.proofs.lemmas.List.Elements.{All-nil, All-cons}
use Rattle.collections.specs.ById.{IsById}
use Rattle.edit_apply.specs.declared.Edit.{Edit}
use Rattle.edit_post.specs.Post.{PostId, Sender, Taker, HasEnded, new_taker}
use Rattle.guild_actor.specs.Acts.{counted, sealed_log, strays_of}
use Rattle.guild_actor.specs.declared.report.ActReport.{ActReport}
use Rattle.guild_places.specs.Places.{guilds_of}
use Rattle.load_settle.specs.Passes.{AreTakers}
use Rattle.gate_parts.specs.Actors.{Acts, ActsAs}
use Rattle.gate_parts.specs.declared.actor_part.ActorDone.{ActorDone}
use Rattle.run_stage.specs.Dealing.{AreFrom, evens, odds}
use Rattle.run_stage.specs.Hubs.{IsNewWriter}
use Rattle.run_stage.proofs.Dealt.{map-evens, map-odds, woven_back}
use Rattle.run_stage.proofs.Written.{guilds_are}
use Rattle.run_ends.specs.Lists.{woven}
use Rattle.run_ends.specs.Senders.{HaveSent, AreTakenWhole}
use Rattle.run_ends.specs.Logs.{IsMergedLog, IsOfActor}
use Rattle.run_ends.proofs.Merging.{logs_of_actor, All-woven}
use Rattle.gate_ends.specs.Done.{AreReports}
use Rattle.gate_ends.specs.Ends.{ActorEnds}
use Rattle.gate_ends.proofs.Actors.{two_of, both_posts, once_each, of_actors}
use Rattle.gate_ends.proofs.Writers.{Writer, Log, guild_of, itself, IsSealedOf, all_sealed, guilds_same, logs_ascend}

-- both have acted for the writers of these guilds, on posts to which so many senders sent, with these reports
pub record BothActed {R : Type 0} (posts : List PostId) (senders : ℕ) (guilds : List ℕ) (writers : List Writer) (r0 r1 : ActReport R) : Type 0 where
  pub two : length posts ≡ 2
  pub up : IsById itself guilds
  pub writers_are : AllZip IsNewWriter guilds writers
  pub actors : List (ActorDone R)
  pub actors_are : AreFrom (ActorEnds posts writers senders) 0 2 actors
  pub reports : AreReports actors r0 r1

module _ {R : Type 0} {posts : List PostId} {many : ℕ} {guilds : List ℕ} {writers : List Writer} {r0 r1 : ActReport R} (both : BothActed posts many guilds writers r0 r1) where
  ends : ActorEnds posts writers many 0 both.reports.one × ActorEnds posts writers many 1 both.reports.other
  ends = two_of (ActorEnds posts writers many) both.reports.before both.reports.one both.reports.other
      (subst (λ l. AllZip (ActorEnds posts writers many) (range_with_len 0 2) l) both.reports.actors_are both.actors_are)

  first : ActsAs (new_taker ends.0.post many) (evens writers) r0
  first = subst (λ e. Acts (new_taker ends.0.post many) (evens writers) e) both.reports.first_is ends.0.acts

  second : ActsAs (new_taker ends.1.post many) (odds writers) r1
  second = subst (λ e. Acts (new_taker ends.1.post many) (odds writers) e) both.reports.second_is ends.1.acts

  abbrev taken : List Taker
  taken = r0.pass ∷ r1.pass ∷ []

  pub takers : AreTakers posts taken
  takers = record {
    posts_are = sym (both_posts posts r0.pass.post r1.pass.post both.two (ends.0.at_place ∙ ap Some (sym first.post)) (ends.1.at_place ∙ ap Some (sym second.post)));
    ended = All-cons HasEnded r0.pass (r1.pass ∷ []) first.ended (All-cons HasEnded r1.pass [] second.ended (All-nil HasEnded));
  }

  -- ---- their logs

  abbrev logs : List Log
  logs = woven r0.logs.items r1.logs.items

  logs_are : logs ≡ woven (map (sealed_log r0.pass.taken) (evens writers)) (map (sealed_log r1.pass.taken) (odds writers))
  logs_are = ap₂ woven first.logs second.logs

  pub ids : guilds_of writers ≡ guilds
  ids = guilds_are guilds writers both.writers_are

  pub sealed : AllZip IsSealedOf writers logs
  sealed = subst (λ ls. AllZip IsSealedOf writers ls) (sym logs_are)
      (subst (λ ws. AllZip IsSealedOf ws (woven (map (sealed_log r0.pass.taken) (evens writers)) (map (sealed_log r1.pass.taken) (odds writers)))) (woven_back writers)
      (all_sealed r0.pass.taken r1.pass.taken (evens writers) (odds writers)))

  pub log_guilds : guilds_of logs ≡ guilds
  log_guilds = guilds_same writers logs sealed ∙ ids

  pub ascend : IsById guild_of logs
  ascend = logs_ascend logs (subst (IsById itself) (sym log_guilds) both.up)

  -- each is one order of what the senders sent for its guild
  pub merged : (senders : List (List (ℕ × Edit))) (passes : List (List Sender)) → HaveSent posts guilds 0 senders passes → many ≡ length senders → All (AreTakenWhole taken) passes → All (IsMergedLog senders) logs
  merged senders passes have all whole =
      let of = of_actors guilds writers ids (once_each guilds both.up) in
      let here : All (λ (w : Writer). IsOfActor guilds (length posts) 0 w.0) (evens writers) = subst (λ n. All (λ (w : Writer). IsOfActor guilds n 0 w.0) (evens writers)) (sym both.two) of.0 in
      let there : All (λ (w : Writer). IsOfActor guilds (length posts) 1 w.0) (odds writers) = subst (λ n. All (λ (w : Writer). IsOfActor guilds n 1 w.0) (odds writers)) (sym both.two) of.1 in
      let firsts = logs_of_actor posts guilds taken r0.pass 0 refl (omega (arith, both.two)) senders passes have whole (first.senders ∙ all) first.merged (evens writers) here in
      let seconds = logs_of_actor posts guilds taken r1.pass 1 refl (omega (arith, both.two)) senders passes have whole (second.senders ∙ all) second.merged (odds writers) there in
      subst (λ ls. All (IsMergedLog senders) ls) (sym logs_are)
      (All-woven (IsMergedLog senders) (map (sealed_log r0.pass.taken) (evens writers)) (map (sealed_log r1.pass.taken) (odds writers)) firsts seconds)

  -- ---- how many requests were for none of the guilds of each

  pub strays_of_first : r0.strays ≡ counted (strays_of (evens guilds) r0.pass.taken)
  strays_of_first = first.strays ∙ ap (λ l. counted (strays_of l r0.pass.taken)) (map-evens (λ w. w.0) writers ∙ ap evens ids)

  pub strays_of_second : r1.strays ≡ counted (strays_of (odds guilds) r1.pass.taken)
  strays_of_second = second.strays ∙ ap (λ l. counted (strays_of l r1.pass.taken)) (map-odds (λ w. w.0) writers ∙ ap odds ids)
