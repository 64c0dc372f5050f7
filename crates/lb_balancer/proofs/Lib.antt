mod Flags
mod Judged
mod Kepts
mod OfTexts
mod Parted
mod Refused
mod Renewals
mod Served
