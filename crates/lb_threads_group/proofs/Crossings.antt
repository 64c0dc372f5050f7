-- A group that threads share may be sent to a thread, and be shared by threads.
use denote.RattleType.{RattleType}
use denote.Struct.Declared.{shape}
use denote.Param.Send.{IsSend, IsSync, sendable, view_send, view_sync, struct_send, struct_sync, recorded_send, recorded_sync}
use Rattle.std.proofs.Crossing.{crosses}
use Rattle.std.proofs.MapsCrossing as maps
use Rattle.std.proofs.MapsCrossingOver as sets
use Rattle.lb_select_base.specs.declared.walk.BackendSelection.{Ghosts as Selection}
use Rattle.lb_select_base.proofs.backend.Backend.TheSendSync as backend
use Rattle.lb_health_core.specs.declared.keys.KeyRule.{Ghosts as Keys}
use Rattle.lb_balancer_core.proofs.timings.UpdateTimings.TheSendSync as timings
use Rattle.lb_threads_core.proofs.loads.SharedLoads.TheSendSync as loads
use Rattle.lb_threads_core.proofs.loads.LoadWords.TheSendSync as load_words
use Rattle.lb_threads_core.proofs.generators.SharedGenerator.TheSendSync as generator
use Rattle.lb_threads_core.proofs.lock.KeyedLock.TheSendSync as lock
use Rattle.lb_rebuild.proofs.board.Board.TheSendSync as board
use Rattle.lb_rebuild.specs.contracts.watched.Watched as watched
use Rattle.lb_rebuild.proofs.Crossings.{watched_send}
use Rattle.lb_threads_core.proofs.registry.HealthRegistry.TheSendSync as registry
use Rattle.lb_threads_core.proofs.gate.SelectorRebuildGate.TheSendSync as gate
use Rattle.lb_threads_core.proofs.lanes.Lanes.TheSendSync as lanes
use Rattle.lb_rebuild_core.specs.contracts.place.SlotPlace as place
use Rattle.lb_rebuild_core.specs.contracts.retired.Reader as reader
use Rattle.lb_threads_group.proofs.group.SlotCounters.TheSendSync as line
use Rattle.lb_threads_group.proofs.group.Marks.TheSendSync as marks
use Rattle.lb_threads_group.proofs.found.Tickets.TheSendSync as tickets
use Rattle.lb_threads_core.proofs.cell_words.CellWords.TheSendSync as cells
use Rattle.lb_threads_core.proofs.flag_words.FlagWords.TheSendSync as flags
use Rattle.lb_threads_core.proofs.numbers.KeyedNumbers.TheSendSync as numbered
use Rattle.lb_threads_group.specs.contracts.found.Found as found
use Rattle.lb_threads_group.specs.contracts.found.Found.TheInside as found_inside
use Rattle.lb_threads_group.specs.contracts.found.SlotWords as slot_words
use Rattle.lb_threads_group.specs.contracts.kept.Entry as entry
use Rattle.lb_threads_group.specs.contracts.newest.Newest as newest
use Rattle.lb_threads_group.specs.contracts.kept.Site as site
use Rattle.lb_threads_group.specs.contracts.group.SharedGroup as shared
use Rattle.lb_threads_group.specs.contracts.group.SharedGroup.TheInside as inside

place_send : IsSend place.the_row
place_send = search (sendable, crosses) depth 20

place_sync : IsSync place.the_row
place_sync = search (sendable, crosses) depth 20

module _ (T R H C W : RattleType) (g : Selection T.Denot C.Denot W.Denot) (k : Keys R.Denot) (s : IsSend T)
    (sc : IsSend C) (y : IsSync T) (yc : IsSync C) (sr : IsSend R) (yr : IsSync R) (sh : IsSend H) (yh : IsSync H) where
  core_send : IsSend (watched.the_row T C W g)
  core_send = watched_send T C W g s sc y yc

  reader_send : IsSend (reader.the_row T C W g)
  reader_send = search (sendable, crosses, place_send) depth 20

  reader_sync : IsSync (reader.the_row T C W g)
  reader_sync = search (sendable, crosses, place_sync) depth 20

  site_send : IsSend (site.the_row T R H C W g k)
  site_send = search (sendable, crosses) depth 20

  site_sync : IsSync (site.the_row T R H C W g k)
  site_sync = search (sendable, crosses) depth 20

  found_inside_send : IsSend (found_inside.the_row T R H C W g k)
  found_inside_send = recorded_send (found_inside.the_field T R H C W g k).row _ _ (found_inside.the_type T R H C W g k).to_one
      (struct_send (shape (found_inside.the_type T R H C W g k)) (
        search (sendable, crosses) depth 20,
        (
          search (sendable, crosses, flags.the_send) depth 20,
          (
            search (sendable, crosses, cells.the_send, cells.the_sync) depth 20,
            (
              search (sendable, crosses, load_words.the_send, load_words.the_sync) depth 20,
              (search (sendable, crosses, tickets.the_send) depth 20, tt),
            ),
          ),
        ),
      ))

  found_inside_sync : IsSync (found_inside.the_row T R H C W g k)
  found_inside_sync = recorded_sync (found_inside.the_field T R H C W g k).row _ _ (found_inside.the_type T R H C W g k).to_one
      (struct_sync (shape (found_inside.the_type T R H C W g k)) (
        search (sendable, crosses) depth 20,
        (
          search (sendable, crosses, flags.the_sync) depth 20,
          (
            search (sendable, crosses, cells.the_send, cells.the_sync) depth 20,
            (
              search (sendable, crosses, load_words.the_send, load_words.the_sync) depth 20,
              (search (sendable, crosses, tickets.the_sync) depth 20, tt),
            ),
          ),
        ),
      ))

  found_send : IsSend (found.the_row T R H C W g k)
  found_send = view_send _ _ _ _ _ found_inside_send

  found_sync : IsSync (found.the_row T R H C W g k)
  found_sync = view_sync _ _ _ _ _ found_inside_sync

  slot_words_send : IsSend (slot_words.the_row T R H C W g k)
  slot_words_send = search (sendable, crosses, found_send, found_sync) depth 30

  slot_words_sync : IsSync (slot_words.the_row T R H C W g k)
  slot_words_sync = search (sendable, crosses, found_send, found_sync) depth 30

  entry_send : IsSend (entry.the_row T R H C W g k)
  entry_send = search (sendable, crosses, found_send, found_sync, reader_send) depth 30

  entry_sync : IsSync (entry.the_row T R H C W g k)
  entry_sync = search (sendable, crosses, found_send, found_sync, reader_sync) depth 30

  newest_send : IsSend (newest.the_row T R H C W g k)
  newest_send = recorded_send (newest.the_field T R H C W g k).row _ _ (newest.the_type T R H C W g k).to_one
      (struct_send (shape (newest.the_type T R H C W g k)) (
        search (sendable, crosses, sets.crosses, maps.crosses, backend.the_send, backend.the_sync) depth 30,
        (search (sendable, crosses, found_send, found_sync) depth 20, tt),
      ))

  newest_sync : IsSync (newest.the_row T R H C W g k)
  newest_sync = recorded_sync (newest.the_field T R H C W g k).row _ _ (newest.the_type T R H C W g k).to_one
      (struct_sync (shape (newest.the_type T R H C W g k)) (
        search (sendable, crosses, sets.crosses, maps.crosses, backend.the_send, backend.the_sync) depth 30,
        (search (sendable, crosses, found_send, found_sync) depth 20, tt),
      ))

  inside_send : IsSend (inside.the_row T R H C W g k)
  inside_send = recorded_send (inside.the_field T R H C W g k).row _ _ (inside.the_type T R H C W g k).to_one
      (struct_send (shape (inside.the_type T R H C W g k)) (
        search (lock.the_field_send, core_send) depth 10,
        (
          search (sendable, crosses, board.the_send, board.the_sync) depth 20,
          (
            search (sendable, crosses, registry.the_send, registry.the_sync) depth 20,
            (
              search (sendable, crosses, gate.the_send, gate.the_sync) depth 20,
              (
                search (sendable, crosses, loads.the_field_send) depth 20,
                (
                  search (sendable, crosses) depth 20,
                  (
                    search (sendable, crosses, timings.the_send) depth 20,
                    (
                      search (sendable, crosses, line.the_send) depth 20,
                      (
                        search (sendable, crosses, marks.the_send) depth 20,
                        (
                          search (sendable, site_send) depth 20,
                          (
                            search (sendable, crosses, lanes.the_send, lanes.the_sync, entry_send, entry_sync) depth 20,
                            (
                              search (sendable, crosses) depth 20,
                              (
                                search (sendable, crosses, lock.the_send, lock.the_field_send, slot_words_send, slot_words_sync) depth 20,
                                (
                                  search (sendable, crosses, lanes.the_field_send, newest_send, newest_sync) depth 20,
                                  (
                                    search (sendable, crosses, generator.the_send, generator.the_sync) depth 20,
                                    (search (sendable, crosses, numbered.the_field_send) depth 30, tt),
                                  ),
                                ),
                              ),
                            ),
                          ),
                        ),
                      ),
                    ),
                  ),
                ),
              ),
            ),
          ),
        ),
      ))

  inside_sync : IsSync (inside.the_row T R H C W g k)
  inside_sync = recorded_sync (inside.the_field T R H C W g k).row _ _ (inside.the_type T R H C W g k).to_one
      (struct_sync (shape (inside.the_type T R H C W g k)) (
        search (lock.the_field_sync, core_send) depth 10,
        (
          search (sendable, crosses, board.the_send, board.the_sync) depth 20,
          (
            search (sendable, crosses, registry.the_send, registry.the_sync) depth 20,
            (
              search (sendable, crosses, gate.the_send, gate.the_sync) depth 20,
              (
                search (sendable, crosses, loads.the_field_sync) depth 20,
                (
                  search (sendable, crosses) depth 20,
                  (
                    search (sendable, crosses, timings.the_send) depth 20,
                    (
                      search (sendable, crosses, line.the_sync) depth 20,
                      (
                        search (sendable, crosses, marks.the_sync) depth 20,
                        (
                          search (sendable, site_sync) depth 20,
                          (
                            search (sendable, crosses, lanes.the_send, lanes.the_sync, entry_send, entry_sync) depth 20,
                            (
                              search (sendable, crosses) depth 20,
                              (
                                search (sendable, crosses, lock.the_sync, lock.the_field_sync, slot_words_send, slot_words_sync) depth 20,
                                (
                                  search (sendable, crosses, lanes.the_field_sync, newest_send, newest_sync) depth 20,
                                  (
                                    search (sendable, crosses, generator.the_send, generator.the_sync) depth 20,
                                    (search (sendable, crosses, numbered.the_field_sync) depth 30, tt),
                                  ),
                                ),
                              ),
                            ),
                          ),
                        ),
                      ),
                    ),
                  ),
                ),
              ),
            ),
          ),
        ),
      ))

  pub shared_send : IsSend (shared.the_row T R H C W g k)
  shared_send = view_send _ _ _ _ _ inside_send

  pub shared_sync : IsSync (shared.the_row T R H C W g k)
  shared_sync = view_sync _ _ _ _ _ inside_sync
